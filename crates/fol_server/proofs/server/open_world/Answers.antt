use Rattle.fol_follow.specs.Books.{book_id}
use Rattle.fol_live.specs.Lives.{live_id}
use Rattle.fol_server.proofs.Dealt.{pages_from, seats_from}
use Rattle.fol_server.proofs.server.open_world.Goals as goal

pub next_page-page-requires-clause-left : goal.next_page-page-requires-clause-left
next_page-page-requires-clause-left c = pages_from (book_id c.in_ok-book.field-0.book) _ 4 c.in_ok-book.field-0.seats.items c.in_ok-book.ensures.seats

pub next_seat-caller-requires-clause-left : goal.next_seat-caller-requires-clause-left
next_seat-caller-requires-clause-left c = seats_from (live_id c.in_ok-live.field-0.live) c.in_ok-opening.opening 6 c.in_ok-live.field-0.seats.items c.in_ok-live.ensures.seats
