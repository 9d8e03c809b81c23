use Rattle.std.proofs.Common.{◌≡◌, ◌++◌, string_bytes, map}
use Rattle.fol_model.specs.Universe.{numbers_below}
use Rattle.fol_gen.specs.MadeTexts.{text_of, unload_line}
use Rattle.fol_gen.proofs.clusters.put_unloads.Given as goal

abbrev pub invariant-loop-cluster : goal.invariant-loop-cluster
invariant-loop-cluster l = string_bytes l.out ≡ string_bytes l.initial.out ++ text_of (map unload_line (numbers_below l.cluster))
