-- Who belongs to a server, and what stays the same of them while they work.
use Rattle.std.specs.Prelude.{◌≡◌, ◌≢◌, Option, None, IfSome}
use Rattle.std.specs.Global.{Box}
use Rattle.fol_data.specs.declared.tick.Tick.{Tick}
use Rattle.fol_lock.specs.Seat.{IsIdle}
use Rattle.fol_live.specs.Held.{HoldsRun}
use Rattle.fol_live.specs.Lives.{live_id}
use Rattle.fol_live.specs.Seat.{Shown, held}
use Rattle.fol_view.specs.Publications.{Listed}
use Rattle.fol_follow.specs.Books.{book_id}
use Rattle.fol_inbox.specs.Ids.{inbox_id}
use Rattle.fol_inbox.specs.Sending.{Sending}
use Rattle.fol_server.specs.declared.server.Server.{Server}
use Rattle.fol_server.specs.declared.worker.Worker.{Worker}
use Rattle.fol_server.specs.declared.worker.Tried.{Tried}
use Rattle.fol_server.specs.declared.worker.Tried.TheVariants.{Done, Idle, GaveUp}
use Rattle.fol_server.specs.declared.lead.Lead.{Lead}
use Rattle.fol_server.specs.declared.team.Crew.{Crew}

-- the same seat of the same world
abbrev pub IsSameSeat : Shown → Shown → Type 0
IsSameSeat old new = (new.lock ≡ old.lock) × (new.number ≡ old.number)

-- it ran the tick, where it did not fail, and may give it back
abbrev pub Ran : Shown → Shown → Option (Box Tick) → Type 0
Ran old new tick = IsSameSeat old new × IfSome tick (λ t. HoldsRun new t.value)

-- it holds no tick, and so may claim one
abbrev pub IsFree : Worker → Type 0
IsFree w = held w.seat ≡ None

-- it holds none, unless it gave up
abbrev pub IsFreeAfter : Tried → Worker → Type 0
IsFreeAfter Done w = IsFree w
IsFreeAfter Idle w = IsFree w
IsFreeAfter GaveUp w = Unit {0}

-- its seats are of the server's world and book, and it is a worker's
abbrev pub IsWorkerOf : Server → Worker → Type 0
IsWorkerOf server w = (w.seat.lock ≡ live_id server.live) × (w.seat.number ≢ 0) × IsIdle (book_id server.book) w.pages

-- it has the same seats, at rest
abbrev pub IsSameWorker : Worker → Worker → Type 0
IsSameWorker old new = IsSameSeat old.seat new.seat × (new.pages.lock ≡ old.pages.lock) × (new.pages.number ≡ old.pages.number) × (new.pages.has_turn ≡ old.pages.has_turn)

abbrev pub IsSameSender : Sending → Sending → Type 0
IsSameSender old new = (new.inbox ≡ old.inbox) × (new.number ≡ old.number)

abbrev pub IsSameReader : Listed → Listed → Type 0
IsSameReader old new = new.book ≡ old.book

-- all that it has is of the server
pub record IsLeadOf (server : Server) (lead : Lead) : Type 0 where
  pub caller : lead.caller.lock ≡ live_id server.live
  pub pages : IsIdle (book_id server.book) lead.pages
  pub worker : IsWorkerOf server lead.worker
  pub inbox : lead.drainer.inbox ≡ inbox_id server.inbox
  pub poster : lead.drainer.seat.lock ≡ live_id server.live
  pub publisher : lead.writer.seat.lock ≡ live_id server.live

pub record IsSameLead (old new : Lead) : Type 0 where
  pub caller : IsSameSeat old.caller new.caller
  pub pages : (new.pages.lock ≡ old.pages.lock) × (new.pages.number ≡ old.pages.number) × (new.pages.has_turn ≡ old.pages.has_turn)
  pub worker : IsSameWorker old.worker new.worker
  pub inbox : new.drainer.inbox ≡ old.drainer.inbox
  pub senders : new.drainer.senders ≡ old.drainer.senders
  pub poster : IsSameSeat old.drainer.seat new.drainer.seat
  pub view : new.writer.book ≡ old.writer.book
  pub publisher : IsSameSeat old.writer.seat new.writer.seat

pub record IsCrewOf (server : Server) (crew : Crew) : Type 0 where
  pub lead : IsLeadOf server crew.lead
  pub second : IsWorkerOf server crew.second
  pub third : IsWorkerOf server crew.third
  pub sender : crew.sender.inbox ≡ inbox_id server.inbox

pub record IsSameCrew (old new : Crew) : Type 0 where
  pub lead : IsSameLead old.lead new.lead
  pub second : IsSameWorker old.second new.second
  pub third : IsSameWorker old.third new.third
  pub sender : IsSameSender old.sender new.sender
  pub reader : IsSameReader old.reader new.reader

-- none of its workers holds a tick
pub record AreFree (crew : Crew) : Type 0 where
  pub lead : IsFree crew.lead.worker
  pub second : IsFree crew.second
  pub third : IsFree crew.third
