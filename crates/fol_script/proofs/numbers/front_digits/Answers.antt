use Rattle.std.proofs.Common.{sym, ap, not, arith}
use Rattle.fol_text_laws.proofs.Ranges.{range_in}
use Rattle.fol_script.proofs.Digits.{front_end, more_below, step_near}
use Rattle.fol_script.proofs.numbers.front_digits.Goals as goal

pub loop-n-preserved : goal.loop-n-preserved
loop-n-preserved c =
    let digit = sym c.if-is_ascii_digit.ensures.value in
    let range = range_in 48 _ 57 digit in
    record {
      below = more_below c.args.text.now c.loop-n.n digit c.loop-n.invariant.below;
      within = omega (arith, c.loop-n-test.true);
      value = step_near c.args.text.now c.loop-n.n c.loop-n.value c.one_more-value.result range.0 range.1 c.loop-n-test.true c.one_more-value.ensures.far c.one_more-value.ensures.near c.loop-n.invariant.value;
    }

pub returns-else-is_ascii_digit-clause-place : goal.returns-else-is_ascii_digit-clause-place
returns-else-is_ascii_digit-clause-place c = front_end c.args.text.now c.loop-n.n c.loop-n.invariant.within c.loop-n.invariant.below (λ _. ap not (sym c.if-is_ascii_digit.ensures.value))

pub returns-after-loop-n-clause-place : goal.returns-after-loop-n-clause-place
returns-after-loop-n-clause-place c = front_end c.args.text.now c.loop-n.n c.loop-n.invariant.within c.loop-n.invariant.below (λ lt. absurd (omega (arith, lt, c.loop-n-test.false)))
