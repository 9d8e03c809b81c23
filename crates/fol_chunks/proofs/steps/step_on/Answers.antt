use Rattle.std.proofs.Common.{arith}
use Rattle.std.proofs.lemmas.List.Edits.{map_over_more}
use Rattle.fol_chunks.specs.Contents.{is_recorded}
use Rattle.fol_chunks.specs.Rows.{stepped}
use Rattle.fol_keyed.proofs.Keyed.{at_own}
use Rattle.fol_chunks.proofs.steps.step_on.Goals as goal

pub loop-i-preserved : goal.loop-i-preserved
loop-i-preserved g c = rw c.walk.ensures (map_over_more (stepped (is_recorded (g.L.Lookup.listed c.args.recorded.now))) _ c.loop-i.entities c.loop-i.i _ (omega arith) c.loop-i.invariant (at_own c.loop-i.entities c.loop-i.i _ (omega arith)))
