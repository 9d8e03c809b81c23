use Rattle.std.proofs.Common.{◌/◌, ◌%◌, ◌++◌, ◌∙◌, sym, ap, take, decimal, arith, append_assoc}
use Rattle.itoa.proofs.Decimal.{pair, decimal_pair, length_pair}
use Rattle.fol_report.proofs.digits.put_four.Goals as goal

pub put_two-middle-requires : goal.put_two-middle-requires
put_two-middle-requires c = omega (arith, length_pair c.args.n c.if-n-lt100.false (omega arith))

pub put_pair-requires : goal.put_pair-requires
put_pair-requires c = omega (arith, length_pair c.args.n c.if-n-lt100.false (omega arith), c.put_two-middle.ensures.end)

pub returns-clause-end : goal.returns-clause-end
returns-clause-end c = omega (arith, length_pair c.args.n c.if-n-lt100.false (omega arith), c.put_two-middle.ensures.end)

pub returns-clause-written : goal.returns-clause-written
returns-clause-written c =
    let before = take c.args.at c.args.bytes.now in
    let last = pair (c.args.n % 100) in
    c.put_pair.ensures
    ∙ ap (λ t. t ++ last) c.put_two-middle.ensures.written
    ∙ append_assoc before (decimal (c.args.n / 100)) last
    ∙ ap (λ t. before ++ t) (sym (decimal_pair c.args.n c.if-n-lt100.false (omega arith)))
