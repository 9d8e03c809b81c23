use Rattle.std.proofs.Common.{◌∙◌, ap, arith}
use Rattle.std.specs.Str.Parse.{digits_value}
use Rattle.std.proofs.lemmas.List.{take_all}
use Rattle.std.proofs.lemmas.Str.Parse.{digit_at}
use Rattle.fol_events.proofs.Naturals.{one_more, too_great}
use Rattle.fol_events.proofs.numbers.value_of.Goals as goal

pub one_more-requires : goal.one_more-requires
one_more-requires c = digit_at c.args.digits.now c.loop-b.b-index c.requires c.loop-b-test.true

pub returns-in_err-value : goal.returns-in_err-value
returns-in_err-value c =
    rw c.from_residual.ensures (too_great c.args.digits.now c.loop-b.b-index c.loop-b.value c.requires c.loop-b-test.true c.loop-b.invariant.so_far c.in_err-value.ensures)

pub loop-b-preserved : goal.loop-b-preserved
loop-b-preserved c =
    let next = one_more c.args.digits.now c.loop-b.b-index c.loop-b.value c.requires c.loop-b-test.true c.loop-b.invariant.so_far in
    record { small = omega (arith, c.in_ok-value.ensures.0, c.in_ok-value.ensures.1); so_far = c.in_ok-value.ensures.1 ∙ next }

pub returns : goal.returns
returns c =
    let whole = c.loop-b.invariant.so_far ∙ ap (digits_value 10) (take_all c.loop-b.b-index c.args.digits.now c.loop-b-test.false) in
    let small = c.loop-b.invariant.small in
    (omega (arith, whole, small), whole)
