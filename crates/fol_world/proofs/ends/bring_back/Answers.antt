use Rattle.std.proofs.Common.{◌≡◌, ◌∙◌, refl, sym, ap, subst, arith, true, filter}
use Rattle.fol_model.specs.Universe.{all_chunks}
use Rattle.fol_model.specs.Outputs.{is_chunk_of}
use Rattle.fol_model.specs.declared.regions.State.TheVariants.{Dead, Ticking}
use Rattle.fol_regions.specs.Table.{grid_state}
use Rattle.fol_store.specs.Bag.{Bag}
use Rattle.fol_store.specs.Stock.{bag_of}
use Rattle.fol_world.specs.Bags.{KeepsUp}
use Rattle.fol_world.proofs.EndedRegion.{in_place, own_back, returned}
use Rattle.fol_world.proofs.ends.bring_back.Goals as goal

pub catch_up-requires-clause-given : goal.catch_up-requires-clause-given
catch_up-requires-clause-given c = c.keeps_rules.ensures.given c.args.region (λ d. let x : Ticking ≡ Dead = sym c.requires.ticks ∙ d in absurd (cc))

pub catch_up-requires-clause-here : goal.catch_up-requires-clause-here
catch_up-requires-clause-here c = ap (λ (b : Bag). b.here) (own_back (bag_of c.args.tables.now.store) (grid_state c.args.tables.now.regions) c.args.region c.args.body.tick c.args.body.owed (bag_of c.put.new.self) (bag_of c.put.new.self) c.put.ensures.bags)

pub catch_up-requires-clause-home : goal.catch_up-requires-clause-home
catch_up-requires-clause-home c = ap (λ (b : Bag). b.taken) (own_back (bag_of c.args.tables.now.store) (grid_state c.args.tables.now.regions) c.args.region c.args.body.tick c.args.body.owed (bag_of c.put.new.self) (bag_of c.put.new.self) c.put.ensures.bags)

pub catch_up-requires-clause-follows : goal.catch_up-requires-clause-follows
catch_up-requires-clause-follows c =
    let P : Bag → Type 0 = λ b. b.listed ≡ true → KeepsUp b (filter (is_chunk_of (grid_state c.args.tables.now.regions) c.args.region) all_chunks) in
    subst P (sym (own_back (bag_of c.args.tables.now.store) (grid_state c.args.tables.now.regions) c.args.region c.args.body.tick c.args.body.owed (bag_of c.put.new.self) (bag_of c.put.new.self) c.put.ensures.bags)) c.requires.follows

pub catch_up-requires-clause-tasks : goal.catch_up-requires-clause-tasks
catch_up-requires-clause-tasks c = let e = c.put.ensures.tasks in rw e c.requires.held

pub returns : goal.returns
returns c = record {
  regions = refl;
  contents = c.catch_up.ensures.things.flat ∙ c.put.ensures.contents;
  tasks = c.catch_up.ensures.things.jobs ∙ c.put.ensures.tasks;
  own = returned (bag_of c.args.tables.now.store) (grid_state c.args.tables.now.regions) c.args.region c.args.body.tick c.args.body.owed (bag_of c.put.new.self) (bag_of c.catch_up.new.store) c.put.ensures.bags c.catch_up.ensures.own;
  bags = in_place (bag_of c.args.tables.now.store) (grid_state c.args.tables.now.regions) c.args.region c.args.body.tick c.args.body.owed (bag_of c.put.new.self) (bag_of c.catch_up.new.store) c.put.ensures.bags c.catch_up.ensures.bags;
  next = c.catch_up.ensures.next ∙ c.put.ensures.next;
  slots = omega (arith, c.catch_up.ensures.slots, c.put.ensures.slots);
  grid = refl;
  tickets = refl;
  agenda = refl;
  course = refl;
}
