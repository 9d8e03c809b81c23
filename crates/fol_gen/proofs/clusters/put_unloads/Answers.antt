use Rattle.std.proofs.Common.{arith}
use Rattle.std.proofs.lemmas.Grind.{common_steps}
use Rattle.fol_gen.specs.MadeTexts.{unload_line}
use Rattle.fol_gen.proofs.Below.{lines_below_more}
use Rattle.fol_gen.proofs.clusters.put_unloads.Goals as goal

pub loop-cluster-preserved : goal.loop-cluster-preserved
loop-cluster-preserved c = let e = lines_below_more unload_line c.loop-cluster.cluster in grind (arith, common_steps, e)
