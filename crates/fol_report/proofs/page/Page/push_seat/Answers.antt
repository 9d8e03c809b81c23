use Rattle.std.proofs.Common.{◌∷◌, ◌++◌, ◌∙◌, sym, arith, append_assoc, decimal, length, length-append, length-take-le, ap}
use Rattle.std.proofs.lemmas.Str.{IsAscii-append}
use Rattle.fol_report.proofs.Seats.{seat_length, seat_ascii}
use Rattle.fol_report.proofs.page.Page.push_seat.Goals as goal

pub returns-clause-text : goal.returns-clause-text
returns-clause-text c =
    c.put-self-inside.ensures.written
    ∙ ap (λ t. t ++ c.turn_to.new.self) c.self.view_is
    ∙ ap (λ t. c.args.self.now ++ t) c.turn_to.ensures
    ∙ sym (append_assoc c.args.self.now (decimal c.args.worker) (32 ∷ decimal c.args.region))

pub returns-clause-len : goal.returns-clause-len
returns-clause-len c =
    let seat = seat_length c.args.worker c.args.region (omega arith) (omega arith) in
    let page = c.args.self.now in
    rw (returns-clause-text c, append_assoc page) (omega (arith, seat, length-append page (decimal c.args.worker ++ 32 ∷ decimal c.args.region)))

pub invariant_of-self : goal.invariant_of-self
invariant_of-self c =
    let p = c.self.inside in
    let seat = seat_length c.args.worker c.args.region (omega arith) (omega arith) in
    let written = ap length c.turn_to.ensures in
    let long = sym (ap length c.self.view_is) ∙ length-take-le p.len p.bytes (omega (arith, c.self.invariant.within, c.self.invariant.room)) in
    record {
      within = omega (arith, long, seat, written, c.requires, c.put-self-inside.ensures.end);
      room = omega arith;
      ascii = rw (returns-clause-text c, append_assoc c.args.self.now, ← c.self.view_is) (IsAscii-append _ _ c.self.invariant.ascii (seat_ascii c.args.worker c.args.region (omega arith) (omega arith)));
    }
