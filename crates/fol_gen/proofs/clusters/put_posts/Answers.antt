use Rattle.std.proofs.Common.{arith}
use Rattle.std.proofs.lemmas.Grind.{common_steps}
use Rattle.fol_gen.specs.MadeTexts.{post_line}
use Rattle.fol_gen.proofs.Below.{lines_below_more}
use Rattle.fol_gen.proofs.clusters.put_posts.Goals as goal

pub loop-place-preserved : goal.loop-place-preserved
loop-place-preserved c = let e = lines_below_more (post_line c.args.cluster) c.loop-place.place in grind (arith, common_steps, e)
