use Rattle.std.proofs.Common.{◌≡◌, ◌++◌, string_bytes, flat_map}
use Rattle.fol_model.specs.Universe.{numbers_below}
use Rattle.fol_gen.specs.MadeTexts.{cluster_lines, text_of}
use Rattle.fol_gen.proofs.clusters.put_clusters.Given as goal

abbrev pub invariant-loop-cluster : goal.invariant-loop-cluster
invariant-loop-cluster l = string_bytes l.out ≡ string_bytes l.initial.out ++ text_of (flat_map cluster_lines (numbers_below l.cluster))
