use Rattle.std.proofs.Common.{◌≡◌, drop, true}
use Rattle.fol_script.specs.Judged.{is_tidy}
use Rattle.fol_script.proofs.judge.is_spaced.Given as goal

abbrev pub invariant-loop-b : goal.invariant-loop-b
invariant-loop-b l = is_tidy l.fresh (drop l.b-index l.line) ≡ is_tidy true l.line
