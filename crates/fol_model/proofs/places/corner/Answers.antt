use Rattle.std.proofs.Common.{arith, ◌≡◌}
use Rattle.std.specs.Prelude.{pos, ◌-ℤ◌}
use mir.Val.{to_z, of_z}
use mir.Syntax.{w32}
use borrow.Author.Differences.{ints}
use Rattle.fol_model.proofs.places.corner.Goals as goal

pub overflow_sub-result : goal.overflow_sub-result
overflow_sub-result c = let n = c.requires.near in omega (arith, ints, n.0)

pub overflow_sub-result-2 : goal.overflow_sub-result-2
overflow_sub-result-2 c = let n = c.requires.near in omega (arith, ints, n.1)

pub returns : goal.returns
returns c =
    let n = c.requires.near in
    let x : to_z w32 (of_z w32 (to_z w32 (of_z w32 c.args.s.x) -ℤ to_z w32 c.args.radius)) ≡ c.args.s.x -ℤ pos c.args.radius = omega (arith, ints, n.0) in
    let z : to_z w32 (of_z w32 (to_z w32 (of_z w32 c.args.s.z) -ℤ to_z w32 c.args.radius)) ≡ c.args.s.z -ℤ pos c.args.radius = omega (arith, ints, n.1) in
    λ i. record { x = x i; z = z i }
