use Rattle.std.proofs.Common.{◌≡◌, arith}
use Rattle.std.specs.Prelude.{pos, ◌+ℤ◌, ◌-ℤ◌}
use mir.Val.{to_z, of_z}
use mir.Syntax.{w32}
use borrow.Author.Differences.{ints}
use Rattle.fol_split.proofs.runs.Run.grown.Goals as goal

pub returns-clause-grown : goal.returns-clause-grown
returns-clause-grown c =
    let n = c.requires.near in
    let z : to_z w32 (of_z w32 (to_z w32 (of_z w32 c.args.self.z) -ℤ to_z w32 c.args.merge)) ≡ c.args.self.z -ℤ pos c.args.merge = omega (arith, ints, n.0) in
    let from : to_z w32 (of_z w32 (to_z w32 (of_z w32 c.args.self.from) -ℤ to_z w32 c.args.merge)) ≡ c.args.self.from -ℤ pos c.args.merge = omega (arith, ints, n.1) in
    let to : to_z w32 (of_z w32 (to_z w32 (of_z w32 c.args.self.to) +ℤ to_z w32 c.args.merge)) ≡ c.args.self.to +ℤ pos c.args.merge = omega (arith, ints, n.2) in
    λ i. record { z = z i; from = from i; to = to i }

pub returns-clause-near : goal.returns-clause-near
returns-clause-near c =
    let n = c.requires.near in
    let z : to_z w32 (of_z w32 (to_z w32 (of_z w32 c.args.self.z) -ℤ to_z w32 c.args.merge)) ≡ c.args.self.z -ℤ pos c.args.merge = omega (arith, ints, n.0) in
    omega (arith, ints, z, n.0)
