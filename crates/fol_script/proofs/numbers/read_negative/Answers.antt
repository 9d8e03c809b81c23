use Rattle.std.proofs.Common.{sym, ◌∙◌, arith, ◌<◌, pos, ◌-ℤ◌}
use Rattle.std.proofs.lemmas.Int.{to_z-of_z, to_z_pos}
use borrow.Author.Differences.{ints}
use mir.Syntax.{w64}
use mir.Val.{SFits}
use Rattle.fol_script.proofs.Digits.{negative_read, no_negative, taken_from_0}
use Rattle.fol_script.proofs.numbers.read_negative.Goals as goal

pub returns-then-size-eq0 : goal.returns-then-size-eq0
returns-then-size-eq0 c =
    let near = c.in-Some.ensures in
    sym (no_negative c.args.low c.args.high c.in-Some.size c.args.digits.now near.0 c.if-size-eq0.true near.1)

pub returns : goal.returns
returns c =
    let fl = c.ranges.low in
    let fh = c.ranges.high in
    let near = c.in-Some.ensures in
    let m = c.in-Some.size in
    let small : m < 9223372036854775808 = omega (arith, near.1.0) in
    let fits : SFits w64 (pos 0 -ℤ pos m) = omega (arith, ints, near.1.0) in
    let p = rw (to_z-of_z w64 c.args.low fl, to_z-of_z w64 c.args.high fh, to_z_pos w64 m small, to_z-of_z w64 (pos 0 -ℤ pos m) fits, taken_from_0 m) at c.bounded.ensures in
    p ∙ negative_read c.args.low c.args.high m c.args.digits.now c.requires near.0 c.if-size-eq0.false near.1
