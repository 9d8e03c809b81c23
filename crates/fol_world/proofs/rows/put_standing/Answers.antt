use Rattle.std.specs.Ordering.{nat_cmp}
use Rattle.fol_world.specs.Closings.{standing_entry}
use Rattle.fol_world.proofs.EntriesPut.{puts_next}
use Rattle.fol_world.proofs.rows.put_standing.Goals as goal

pub loop-e-preserved : goal.loop-e-preserved
loop-e-preserved c = puts_next nat_cmp c.args.places.now c.loop-e.places c.insert.new.self standing_entry c.args.entities.now c.loop-e.e-index _ c.loop-e-test.true c.loop-e.invariant c.in_ok-insert.ensures.updates.0
