-- What a worker's seat keeps, between ticks and in one.
use Rattle.std.specs.Prelude.{◌≡◌, ◌≤◌, false, List, [], filter, nat_eq, None, IsSome}
use Rattle.std.specs.List.{AllByRecursion, list_any}
use Rattle.fol_model.specs.declared.events.Entry.{Entry}
use Rattle.fol_model.specs.declared.tasks.Ran.{Ran}
use Rattle.fol_model.specs.World.{start}
use Rattle.fol_model.specs.Run.{world}
use Rattle.fol_model.specs.Legal.{idle, ticking}
use Rattle.fol_data.specs.declared.tick.Tick.{Tick}
use Rattle.fol_seat_laws.specs.Signed.{is_phase, own_of}
use Rattle.fol_seat_laws.specs.Turns.{Turns}
use Rattle.fol_seat_laws.specs.Worked.{WasWhole}
use Rattle.fol_live.specs.Held.{HoldsRun, HoldsTick}
use Rattle.fol_live.specs.Kept.{Keeps}
use Rattle.fol_live.specs.Seat.{Shown, held}
use Rattle.fol_live.specs.Turned.{Looks}

-- the same seat of the same world
pub record SameSeat (old new : Shown) : Type 0 where
  pub lock : new.lock ≡ old.lock
  pub opening : new.opening ≡ old.opening
  pub number : new.number ≡ old.number

-- it is a worker's seat: what it has seen is a run, and it opened, closed and finished nothing
pub record Calm (s : Shown) : Type 0 where
  pub some : 1 ≤ s.number
  pub keeps : Keeps s.lock.workers s.opening s.seen
  pub own : own_of s.number s.seen ≡ s.mine
  pub calm : AllByRecursion (λ (e : Entry). is_phase e.event ≡ false) s.mine

-- the ticks of its worker are whole, unless the world was stopped, but for Begins that it recorded since
pub record Works (s : Shown) : Type 0 where
  pub calm : Calm s
  pub whole : WasWhole s.opening s.seen s.number

-- so it is, and the worker holds no tick
pub record Rests (s : Shown) : Type 0 where
  pub works : Works s
  pub free : held s ≡ None

-- it holds this tick, of which nothing has run, and before that the ticks of its worker were whole
pub record Holds (s : Shown) (tick : Tick) : Type 0 where
  pub works : Works s
  pub out : HoldsTick s tick

-- it holds this tick, which has run
pub record HasRun (s : Shown) (tick : Tick) : Type 0 where
  pub calm : Calm s
  pub out : HoldsRun s tick
  -- what its loads and unloads came to, which the tick tells again
  pub told : List Ran
  pub again : filter (λ (x : Ran). list_any (λ (y : Ran). nat_eq y.number x.number) told) tick.log.ran ≡ told
  -- with the next turn the Begin of the tick is recorded, and the worker has nothing left to ask in it
  pub ticks : (now : Shown) → Looks s now → (world now.opening now.seen).stopped ≡ false → Turns now.number (start now.opening) idle now.seen (ticking tick.region [] told)

-- it holds a tick, of which some may have run
pub record IsStuck (s : Shown) : Type 0 where
  pub calm : Calm s
  pub holds : IsSome (held s)

-- the seat that was given, whose ticks are whole
pub record IsBack (given back : Shown) : Type 0 where
  pub same : SameSeat given back
  pub works : Works back
