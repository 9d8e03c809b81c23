use Rattle.std.proofs.Common.{◌≡◌, arith}
use Rattle.std.specs.Prelude.{pos, ◌+ℤ◌}
use mir.Val.{to_z, of_z}
use mir.Syntax.{w32}
use borrow.Author.Differences.{ints}
use Rattle.fol_split.proofs.Places.{section_near}
use Rattle.fol_split.proofs.runs.Run.of.Goals as goal

pub overflow_add-result : goal.overflow_add-result
overflow_add-result c = let n = section_near c.args.s c.requires in omega (arith, ints, n.0)

pub returns : goal.returns
returns c =
    let n = section_near c.args.s c.requires in
    let z : to_z w32 (of_z w32 c.args.s.z) ≡ c.args.s.z = omega (arith, ints, n.1) in
    let x : to_z w32 (of_z w32 c.args.s.x) ≡ c.args.s.x = omega (arith, ints, n.0) in
    let y : to_z w32 (of_z w32 (to_z w32 (of_z w32 c.args.s.x) +ℤ pos 1)) ≡ c.args.s.x +ℤ pos 1 = omega (arith, ints, n.0) in
    λ i. record { z = z i; from = x i; to = y i }
