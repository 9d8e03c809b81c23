use Rattle.std.proofs.Common.{◌≡◌, arith, rules}
use Rattle.std.specs.Prelude.{pos, ◌+ℤ◌}
use Rattle.std.proofs.lemmas.Int.{to_z-of_z}
use mir.Val.{to_z, of_z, SFits}
use mir.Syntax.{w32}
use borrow.Author.Differences.{ints}
use Rattle.fol_split.proofs.Places.{section_near}
use Rattle.fol_split.proofs.runs.Run.with.Goals as goal

pub overflow_add-result : goal.overflow_add-result
overflow_add-result c = let n = section_near c.args.s.now c.requires in omega (arith, ints, n.0)

pub returns : goal.returns
returns c =
    let n = section_near c.args.s.now c.requires in
    let fz : SFits w32 c.args.self.z = search rules in
    let ff : SFits w32 c.args.self.from = search rules in
    let z : to_z w32 (of_z w32 c.args.self.z) ≡ c.args.self.z = simp to_z-of_z in
    let x : to_z w32 (of_z w32 c.args.self.from) ≡ c.args.self.from = simp to_z-of_z in
    let y : to_z w32 (of_z w32 (to_z w32 (of_z w32 c.args.s.now.x) +ℤ pos 1)) ≡ c.args.s.now.x +ℤ pos 1 = omega (arith, ints, n.0) in
    λ i. record { z = z i; from = x i; to = y i }
