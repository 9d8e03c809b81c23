use Rattle.std.proofs.Common.{◌+◌, arith, refl}
use Rattle.std.proofs.lemmas.Fmt.{decimal_digit}
use Rattle.std.proofs.lemmas.Grind.{take-set_at}
use Rattle.itoa.proofs.Decimal.{length_one, decimal_two, length_two}
use Rattle.fol_report.proofs.digits.put_two.Goals as goal

pub bounds-bytes-at : goal.bounds-bytes-at
bounds-bytes-at c = omega (arith, length_one c.args.n c.if-n-lt10.true)

pub returns-then-n-lt10-clause-end : goal.returns-then-n-lt10-clause-end
returns-then-n-lt10-clause-end c = omega (arith, length_one c.args.n c.if-n-lt10.true)

pub returns-then-n-lt10-clause-written : goal.returns-then-n-lt10-clause-written
returns-then-n-lt10-clause-written c =
    let long = length_one c.args.n c.if-n-lt10.true in
    rw (take-set_at c.args.bytes.now c.args.at (c.args.at + 1) _ (omega arith) (omega arith), decimal_digit c.args.n c.if-n-lt10.true) refl

pub put_pair-requires : goal.put_pair-requires
put_pair-requires c = omega (arith, length_two c.args.n c.if-n-lt10.false c.requires.0)

pub overflow_add-result-2 : goal.overflow_add-result-2
overflow_add-result-2 c = omega (arith, length_two c.args.n c.if-n-lt10.false c.requires.0)

pub returns-clause-end : goal.returns-clause-end
returns-clause-end c = omega (arith, length_two c.args.n c.if-n-lt10.false c.requires.0)

pub returns-clause-written : goal.returns-clause-written
returns-clause-written c = rw (decimal_two c.args.n c.if-n-lt10.false c.requires.0) c.put_pair.ensures
