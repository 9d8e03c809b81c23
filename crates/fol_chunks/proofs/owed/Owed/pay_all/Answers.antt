use Rattle.std.proofs.Common.{arith}
use Rattle.std.proofs.lemmas.List.Edits.{map_over_more}
use Rattle.fol_chunks.specs.Areas.{paid}
use Rattle.fol_keyed.proofs.Keyed.{at_own}
use Rattle.fol_chunks.proofs.owed.Owed.pay_all.Goals as goal

pub loop-i-preserved : goal.loop-i-preserved
loop-i-preserved c = rw c.pay.ensures (map_over_more (paid c.args.self.now) _ c.loop-i.entities c.loop-i.i _ (omega arith) c.loop-i.invariant (at_own c.loop-i.entities c.loop-i.i _ (omega arith)))
