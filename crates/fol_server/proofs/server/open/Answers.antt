use Rattle.std.proofs.Common.{◌∙◌, ap, arith}
use Rattle.fol_live.specs.Seat.{Shown}
use Rattle.fol_server.proofs.server.open.Goals as goal

pub returns-clause-crew : goal.returns-clause-crew
returns-clause-crew g c =
    let all = c.in_ok-world.ensures.world in
    let caller = all.caller in
    let page = all.page in
    let first = all.first in
    let first_page = all.first_page in
    let second = all.second in
    let second_page = all.second_page in
    let third = all.third in
    let third_page = all.third_page in
    let publisher = all.publisher in
    let poster = all.poster in
    let drainer = c.in-Ok.ensures.drainer in
    let sender = c.in-Ok.ensures.sender in
    let seat = c.in-Ok.ensures.seat in
    record {
      of = record {
        lead = record {
          caller = caller.0;
          pages = page.0;
          worker = (first.0, (λ zero. let one = first.1 in absurd (omega (arith, zero, one))), first_page.0);
          inbox = drainer.inbox_is;
          poster = ap (λ (s : Shown). s.lock) drainer.seat_is ∙ poster.0;
          publisher = seat.0 ∙ publisher.0;
        };
        second = (second.0, (λ zero. let two = second.1 in absurd (omega (arith, zero, two))), second_page.0);
        third = (third.0, (λ zero. let three = third.1 in absurd (omega (arith, zero, three))), third_page.0);
        sender = sender.0;
      };
      seats = all.seats;
      caller = caller.1;
      first = first.1;
      second = second.1;
      third = third.1;
      publisher = seat.1 ∙ publisher.1;
      poster = ap (λ (s : Shown). s.number) drainer.seat_is ∙ poster.1;
      pages = all.pages;
      page = page.1;
      first_page = first_page.1;
      second_page = second_page.1;
      third_page = third_page.1;
      senders = drainer.senders_is;
      sender = sender.1;
    }

pub returns-clause-free : goal.returns-clause-free
returns-clause-free g c =
    let all = c.in_ok-world.ensures.world in
    let first = all.first in
    let second = all.second in
    let third = all.third in
    record { lead = first.2; second = second.2; third = third.2 }
