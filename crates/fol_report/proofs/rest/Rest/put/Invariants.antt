use Rattle.std.proofs.Common.{◌≡◌, ◌++◌, length, string_bytes}
use Rattle.fol_report.specs.Rests.{rest_words}
use Rattle.fol_report.specs.Spaced.{spaced}
use Rattle.fol_report.proofs.rest.Rest.put.Given as goal

abbrev pub invariant-loop-left : goal.invariant-loop-left
invariant-loop-left l = string_bytes l.out ++ l.page ++ spaced (rest_words l.left) ≡ (string_bytes l.initial.out ++ l.initial.page) ++ spaced (rest_words l.self)

abbrev pub decreases-loop-left : goal.decreases-loop-left
decreases-loop-left l = length (rest_words l.left)
