use Rattle.std.proofs.Common.{arith}
use Rattle.std.proofs.lemmas.Grind.{common_steps}
use Rattle.fol_gen.proofs.Below.{clusters_below_more}
use Rattle.fol_gen.proofs.clusters.put_clusters.Goals as goal

pub loop-cluster-preserved : goal.loop-cluster-preserved
loop-cluster-preserved c = let e = clusters_below_more c.loop-cluster.cluster in grind (arith, common_steps, e)
