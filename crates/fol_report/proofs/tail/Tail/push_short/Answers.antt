use Rattle.std.proofs.Common.{ℕ, arith, length, length-append, length-drop, ap}
use Rattle.std.proofs.lemmas.Str.{IsAscii-append}
use Rattle.std.proofs.lemmas.Fmt.{IsAscii-decimal}
use Rattle.fol_report.proofs.Lengths.{ten_digits}
use Rattle.fol_report.proofs.tail.Tail.push_short.Goals as goal

pub write_digits-self-inside-requires : goal.write_digits-self-inside-requires
write_digits-self-inside-requires c =
    let t = c.self.inside in
    (omega (arith, ten_digits c.args.number (omega arith), length-drop t.start t.bytes, ap length c.self.view_is), omega (arith, c.self.invariant.within))

pub returns-clause-len : goal.returns-clause-len
returns-clause-len c =
    let w = c.write_digits-self-inside in
    rw (w.ensures.written, c.self.view_is) (omega (arith, length-append {A = ℕ}, ten_digits c.args.number (omega arith)))

pub invariant_of-self : goal.invariant_of-self
invariant_of-self c =
    let w = c.write_digits-self-inside in
    record {
      within = omega arith;
      room = omega arith;
      ascii = rw w.ensures.written (IsAscii-append _ _ (IsAscii-decimal c.args.number (omega arith)) c.self.invariant.ascii);
    }
