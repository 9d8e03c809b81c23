use Rattle.std.proofs.Common.{◌∙◌, arith, ◌<◌}
use Rattle.std.proofs.lemmas.Int.{to_z-of_z, to_z_pos}
use mir.Syntax.{w64}
use Rattle.fol_script.proofs.Digits.{positive_read}
use Rattle.fol_script.proofs.numbers.read_positive.Goals as goal

pub returns : goal.returns
returns c =
    let fl = c.ranges.low in
    let fh = c.ranges.high in
    let near = c.in-Some.ensures in
    let small : c.in-Some.size < 9223372036854775808 = omega (arith, near.1.0) in
    let p = rw (to_z-of_z w64 c.args.low fl, to_z-of_z w64 c.args.high fh, to_z_pos w64 c.in-Some.size small) at c.bounded.ensures in
    p ∙ positive_read c.args.low c.args.high c.in-Some.size c.args.digits.now c.requires near.0 near.1
