use Rattle.std.proofs.Common.{◌≡◌, ◌++◌, string_bytes, map}
use Rattle.fol_model.specs.Universe.{numbers_below}
use Rattle.fol_gen.specs.MadeTexts.{post_line, text_of}
use Rattle.fol_gen.proofs.clusters.put_posts.Given as goal

abbrev pub invariant-loop-place : goal.invariant-loop-place
invariant-loop-place l = string_bytes l.out ≡ string_bytes l.initial.out ++ text_of (map (post_line l.cluster) (numbers_below l.place))
