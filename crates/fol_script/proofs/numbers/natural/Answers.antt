use Rattle.std.proofs.Common.{sym}
use Rattle.fol_script.proofs.Digits.{natural_near}
use Rattle.fol_script.proofs.numbers.natural.Goals as goal

pub returns-then-is_spelled : goal.returns-then-is_spelled
returns-then-is_spelled c =
    let spelled = sym c.if-is_spelled.ensures in
    (spelled, natural_near c.args.word.now c.front_digits-digits.result.0 c.front_digits-digits.result.1 c.front_digits-digits.ensures.place spelled c.front_digits-digits.ensures.value)
