use Rattle.std.proofs.Common.{arith}
use Rattle.std.proofs.lemmas.Fmt.{length-decimal-le}
use Rattle.itoa.proofs.Decimal.{length_four}
use Rattle.fol_report.proofs.digits.count_digits.Goals as goal

pub loop-left-preserved : goal.loop-left-preserved
loop-left-preserved c = omega (arith, c.loop-left.invariant, length_four c.loop-left.left c.loop-left-test.true c.loop-left.auto.left-fits.fits)

pub overflow_add-count : goal.overflow_add-count
overflow_add-count c = omega (arith, c.loop-left.invariant, length-decimal-le 20 c.args.n (omega arith) (omega arith) (omega arith))

pub overflow_add-result : goal.overflow_add-result
overflow_add-result c = record { fits = omega (arith, c.loop-left.invariant, c.count_short.ensures, length-decimal-le 20 c.args.n (omega arith) (omega arith) (omega arith)) }
