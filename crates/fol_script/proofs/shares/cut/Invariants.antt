use Rattle.std.proofs.Common.{◌≡◌, ◌++◌, flat_map, length}
use Rattle.fol_model.specs.TextLines.{lines}
use Rattle.fol_script.proofs.shares.cut.Given as goal

abbrev pub invariant-loop-rest : goal.invariant-loop-rest
invariant-loop-rest l = flat_map (λ share. lines share.now) l.shares.items ++ lines l.rest ≡ lines l.text

abbrev pub decreases-loop-rest : goal.decreases-loop-rest
decreases-loop-rest l = length l.rest
