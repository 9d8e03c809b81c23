use Rattle.std.proofs.Common.{◌≡◌, ◌+◌, ◌++◌, ◌∙◌, take, ap, arith, decimal}
use Rattle.fol_report.proofs.Pages.{written_behind}
use Rattle.fol_report.proofs.digits.put_long.Goals as goal

pub write_digits-requires : goal.write_digits-requires
write_digits-requires c = (omega (arith, c.count_digits.ensures), omega (arith, c.count_digits.ensures))

pub returns-clause-end : goal.returns-clause-end
returns-clause-end c = omega (arith, c.count_digits.ensures)

pub returns-clause-written : goal.returns-clause-written
returns-clause-written c =
    let w = c.write_digits in
    let at : w.result ≡ c.args.at = omega (arith, w.ensures.start, c.count_digits.ensures) in
    written_behind w.result (c.args.at + c.count_digits.result) c.args.bytes.now w.new.buf (decimal c.args.n) _ w.ensures.start (omega arith) w.ensures.written w.ensures.before
    ∙ ap (λ k. take k c.args.bytes.now ++ decimal c.args.n) at
