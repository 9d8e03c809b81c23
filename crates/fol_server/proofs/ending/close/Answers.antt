use Rattle.std.proofs.Common.{◌≡◌, ◌∙◌, ap}
use Rattle.fol_live.specs.Seat.{Shown}
use Rattle.fol_server.proofs.All.{are_four, are_six}
use Rattle.fol_server.proofs.ending.close.Goals as goal

pub close_book-visits-requires-clause-all : goal.close_book-visits-requires-clause-all
close_book-visits-requires-clause-all g c =
    let crew = c.args.crew in
    let whole = c.requires.crew in
    rw whole.pages (are_four crew.lead.pages crew.lead.worker.pages crew.second.pages crew.third.pages whole.page whole.first_page whole.second_page whole.third_page)

pub close_world-closing-requires-clause-all : goal.close_world-closing-requires-clause-all
close_world-closing-requires-clause-all g c =
    let crew = c.args.crew in
    let whole = c.requires.crew in
    let publisher = c.close_view-publisher.result.1 in
    let poster = c.in-Ok.poster in
    let fourth : publisher.number ≡ 4 = (c.close_view-publisher.ensures.same).1 ∙ whole.publisher in
    let fifth : poster.number ≡ 5 = ap (λ (s : Shown). s.number) c.in-Ok.ensures.seat ∙ whole.poster in
    rw whole.seats (are_six crew.lead.caller crew.lead.worker.seat crew.second.seat crew.third.seat publisher poster whole.caller whole.first whole.second whole.third fourth fifth)
