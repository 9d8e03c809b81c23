use Rattle.std.proofs.Common.{◌≡◌, true, sym, ◌∙◌}
use Rattle.std.specs.Prelude.{nat_lt}
use Rattle.std.proofs.lemmas.Bool.{and_parts}
use Rattle.fol_model.specs.declared.regions.State.TheVariants.{Ready}
use Rattle.fol_model.specs.GridState.{is_ready}
use Rattle.fol_regions.specs.Table.{grid_state}
use Rattle.fol_store.specs.Stock.{bag_of}
use Rattle.fol_world.specs.Agenda.{owes}
use Rattle.fol_world.proofs.GatheredBags.{is_ready-true}
use Rattle.fol_world.proofs.quiet.quiet_ticks.Goals as goal

pub returns-clause-quiet : goal.returns-clause-quiet
returns-clause-quiet c =
    let owing : owes (grid_state c.args.regions.now) (bag_of c.args.store.now) c.args.id ≡ true = sym c.owes.ensures ∙ c.if-not-owes.false in
    let ready : (grid_state c.args.regions.now).state c.args.id ≡ Ready = is_ready-true ((grid_state c.args.regions.now).state c.args.id)
    (and_parts (is_ready ((grid_state c.args.regions.now).state c.args.id)) (nat_lt 0 (bag_of c.args.store.now c.args.id).owed) owing).0 in
    λ some. record {
      each = record {
        owing = owing;
        whole = c.quiet_ticks-ticks.ensures.whole some;
        rests = c.will_rest.ensures.state c.if-not-will_rest.false ready;
        counters = c.will_rest.ensures.ticks c.if-not-will_rest.false ready;
        owed = c.will_rest.ensures.owed c.if-not-will_rest.false ready;
      };
      none_due = c.quiet_ticks-ticks.ensures.none_due some;
      enough = c.quiet_ticks-ticks.ensures.owed;
    }
