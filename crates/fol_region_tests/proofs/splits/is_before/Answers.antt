use Rattle.std.proofs.Common.{◌≡◌, arith}
use Rattle.std.specs.Prelude.{◌<ℤ◌}
use borrow.Author.Differences.{ints}
use Rattle.fol_split.proofs.Places.{less_row, less_in_row}
use Rattle.fol_region_tests.proofs.splits.is_before.Goals as goal

pub returns-then-a-b : goal.returns-then-a-b
returns-then-a-b c = λ h.
    let l : c.args.a.z <ℤ c.args.b.z = grind (arith, ints) in
    less_row c.args.a c.args.b l

pub returns-then-a-b-2 : goal.returns-then-a-b-2
returns-then-a-b-2 c = λ h.
    let e : c.args.a.z ≡ c.args.b.z = omega (arith, ints, c.if-a-b-2.true) in
    let l : c.args.a.x <ℤ c.args.b.x = grind (arith, ints) in
    less_in_row c.args.a c.args.b e l
