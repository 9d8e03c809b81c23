-- A crew that is whole: with it everything can be closed.
use Rattle.std.specs.Prelude.{◌≡◌, ◌<◌, []}
use Rattle.std.specs.Vec.{vec_capacity}
use Rattle.fol_lock.specs.Lock.{seat_count}
use Rattle.fol_live.specs.Lives.{live_id}
use Rattle.fol_follow.specs.Books.{book_id}
use Rattle.fol_view.specs.Publications.{Listed}
use Rattle.fol_view.specs.Writing.{Writing}
use Rattle.fol_server.specs.declared.server.Server.{Server}
use Rattle.fol_server.specs.declared.server.Dealt.{Dealt}
use Rattle.fol_server.specs.declared.server.Map.{Map}
use Rattle.fol_server.specs.declared.team.Crew.{Crew}
use Rattle.fol_server.specs.Crew.{IsCrewOf}
use Rattle.fol_server.specs.Dealt.{IsNewPage, IsNewSeat}

-- all seats of the world and of the book, each new and with its own number
pub record AllDealt (d : Dealt) : Type 0 where
  pub seats : seat_count d.world.live.lock ≡ 6
  pub pages : seat_count d.world.book.lock ≡ 4
  pub caller : IsNewSeat (live_id d.world.live) 0 d.world.caller
  pub page : IsNewPage (book_id d.world.book) 0 d.world.page
  pub first : IsNewSeat (live_id d.world.live) 1 d.world.first.seat
  pub first_page : IsNewPage (book_id d.world.book) 1 d.world.first.pages
  pub second : IsNewSeat (live_id d.world.live) 2 d.world.second.seat
  pub second_page : IsNewPage (book_id d.world.book) 2 d.world.second.pages
  pub third : IsNewSeat (live_id d.world.live) 3 d.world.third.seat
  pub third_page : IsNewPage (book_id d.world.book) 3 d.world.third.pages
  pub publisher : IsNewSeat (live_id d.world.live) 4 d.publisher
  pub poster : IsNewSeat (live_id d.world.live) 5 d.poster

-- it has all seats of the world, all of the book, and the inbox's only sender
pub record IsWholeCrew (server : Server) (crew : Crew) : Type 0 where
  pub of : IsCrewOf server crew
  pub seats : seat_count server.live.lock ≡ 6
  pub caller : crew.lead.caller.number ≡ 0
  pub first : crew.lead.worker.seat.number ≡ 1
  pub second : crew.second.seat.number ≡ 2
  pub third : crew.third.seat.number ≡ 3
  pub publisher : crew.lead.writer.seat.number ≡ 4
  pub poster : crew.lead.drainer.seat.number ≡ 5
  pub pages : seat_count server.book.lock ≡ 4
  pub page : crew.lead.pages.number ≡ 0
  pub first_page : crew.lead.worker.pages.number ≡ 1
  pub second_page : crew.second.pages.number ≡ 2
  pub third_page : crew.third.pages.number ≡ 3
  pub senders : crew.lead.drainer.senders ≡ 1
  pub sender : crew.sender.number ≡ 0

-- the view is of this writer and of its only reader, which has room to come back
pub record IsMapFor (w : Writing) (r : Listed) (m : Map) : Type 0 where
  pub writer : w.book ≡ m.view.book
  pub reader : r.book ≡ m.view.book
  pub one : m.view.readers ≡ 1
  pub empty : m.readers.items ≡ []
  pub room : 0 < vec_capacity m.readers
