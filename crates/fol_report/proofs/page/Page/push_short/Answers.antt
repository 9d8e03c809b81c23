use Rattle.std.proofs.Common.{ℕ, ◌++◌, ◌∙◌, sym, arith, decimal, length, length-append, length-take-le, ap}
use Rattle.std.proofs.lemmas.Str.{IsAscii-append}
use Rattle.std.proofs.lemmas.Fmt.{IsAscii-decimal}
use Rattle.fol_report.proofs.Lengths.{ten_digits}
use Rattle.fol_report.proofs.page.Page.push_short.Goals as goal

pub put_digits-self-inside-requires : goal.put_digits-self-inside-requires
put_digits-self-inside-requires c =
    let p = c.self.inside in
    let long = sym (ap length c.self.view_is) ∙ length-take-le p.len p.bytes (omega (arith, c.self.invariant.within, c.self.invariant.room)) in
    omega (arith, long, c.requires, ten_digits c.args.number (omega arith), c.self.invariant.room)

pub returns-clause-text : goal.returns-clause-text
returns-clause-text c = c.put_digits-self-inside.ensures.written ∙ ap (λ t. t ++ decimal c.args.number) c.self.view_is

pub returns-clause-len : goal.returns-clause-len
returns-clause-len c = rw (returns-clause-text c) (omega (arith, length-append {A = ℕ}, ten_digits c.args.number (omega arith)))

pub invariant_of-self : goal.invariant_of-self
invariant_of-self c =
    let p = c.self.inside in
    let long = sym (ap length c.self.view_is) ∙ length-take-le p.len p.bytes (omega (arith, c.self.invariant.within, c.self.invariant.room)) in
    record {
      within = omega (arith, long, c.requires, c.put_digits-self-inside.ensures.end, ten_digits c.args.number (omega arith));
      room = omega arith;
      ascii = rw (returns-clause-text c, ← c.self.view_is) (IsAscii-append _ _ c.self.invariant.ascii (IsAscii-decimal c.args.number (omega arith)));
    }
