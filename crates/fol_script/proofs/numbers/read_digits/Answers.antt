use Rattle.std.proofs.Common.{sym, ◌∙◌, arith, ◌<◌}
use Rattle.std.proofs.lemmas.Int.{to_z-of_z, to_z_pos}
use mir.Syntax.{w64}
use Rattle.fol_script.proofs.Digits.{positive_read, digits_reading, no_digits_reading}
use Rattle.fol_script.proofs.numbers.read_digits.Goals as goal

pub returns-then-is_spelled : goal.returns-then-is_spelled
returns-then-is_spelled c =
    let fl = c.ranges.low in
    let fh = c.ranges.high in
    let near = c.requires.value in
    let small : c.args.value < 9223372036854775808 = omega (arith, near.0) in
    let p = rw (to_z-of_z w64 c.args.low fl, to_z-of_z w64 c.args.high fh, to_z_pos w64 c.args.value small) at c.bounded.ensures in
    p ∙ positive_read c.args.low c.args.high c.args.value c.args.word.now c.requires.high (sym c.is_spelled.ensures ∙ c.if-is_spelled.true) near ∙ digits_reading c.args.low c.args.high c.args.word.now c.requires.digits

pub returns-else-is_spelled : goal.returns-else-is_spelled
returns-else-is_spelled c = no_digits_reading c.args.low c.args.high c.args.word.now c.requires.digits (sym c.is_spelled.ensures ∙ c.if-is_spelled.false)
