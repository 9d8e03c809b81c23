use Rattle.std.proofs.Common.{◌≡◌, refl, sym, ◌∙◌, arith, true, length}
use Rattle.fol_model.specs.GridState.{is_loaded}
use Rattle.fol_regions.specs.Table.{grid_state}
use Rattle.fol_regions.specs.Changes.{add_change}
use Rattle.fol_store.specs.Stock.{bag_of}
use Rattle.fol_world.proofs.HeldAgain.{bags_stay, none_made, still_covers, top_stays}
use Rattle.fol_world.proofs.holds.hold.Goals as goal

pub returns-then-add_again-clause-held : goal.returns-then-add_again-clause-held
returns-then-add_again-clause-held c =
    let t = c.args.tables.now in
    let g = grid_state t.regions in
    let held : is_loaded g c.args.c ≡ true = sym c.add_again.ensures.held ∙ c.if-add_again.true in
    let state = c.add_again.ensures.added c.if-add_again.true in
    let made : length (add_change g c.args.c).created ≡ 0 = none_made t.grid g c.args.c (bag_of t.store) c.keeps_rules.ensures held in
    record {
      grid = refl;
      regions = state;
      bags = bags_stay t.grid g c.args.c (bag_of t.store) c.keeps_rules.ensures held _;
      things = record { flat = refl; jobs = refl };
      next = omega (arith, made);
      spare = omega arith;
      covers = rw state (still_covers t.grid g c.args.c (bag_of t.store) c.keeps_rules.ensures held t.agenda.items _ c.requires.covers);
      top = λ top. rw state (top_stays t.grid g c.args.c (bag_of t.store) c.keeps_rules.ensures held t.agenda.items top);
      course = refl;
    }
