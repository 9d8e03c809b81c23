-- One turn of a seat: it waits, has the turn, and gives it back.
use Rattle.std.specs.Prelude.{◌≡◌, List, [], ◌++◌, Option, None, Some}
use Rattle.std.specs.List.{AllByRecursion}
use Rattle.fol_model.specs.declared.events.Entry.{Entry}
use Rattle.fol_data.specs.declared.tick.Tick.{Tick}
use Rattle.atomic_table.specs.Seated.{TableId}
use Rattle.fol_slots.specs.Shown.{Worker}
use Rattle.fol_offers.specs.Offered.{Offered}
use Rattle.fol_live.specs.Hands.{GivesUp}
use Rattle.fol_live.specs.Kept.{IsKept, Keeps}
use Rattle.fol_live.specs.Shown as worlds
use Rattle.fol_live.specs.Turns.{HasOpen, IsLate, Learns}
use Rattle.fol_live.specs.Seat.{Shown, held, meaning_of}
use Rattle.fol_seat_laws.specs.Signed.{own_of}
use Rattle.fol_tick_laws.specs.OpenTicks.{IsOpen}

-- the seat has the turn: it has seen the whole history. Nothing that others recorded since is its own; at the end stand Begins that it learnt
-- of, which it recorded before all else. The Begin of a tick that it holds is among the entries
pub record Looks (old now : Shown) : Type 0 where
  pub lock : now.lock ≡ old.lock
  pub opening : now.opening ≡ old.opening
  pub number : now.number ≡ old.number
  pub hand : now.hand ≡ old.hand
  pub between : List Entry
  pub learnt : List Entry
  pub seen : now.seen ≡ old.seen ++ (between ++ learnt)
  pub others : own_of old.number between ≡ []
  pub late : AllByRecursion (IsLate old.number) learnt
  pub mine : now.mine ≡ old.mine ++ learnt
  pub own : own_of now.number now.seen ≡ now.mine
  pub opened : (t : Tick) → held old ≡ Some t → IsOpen (meaning_of now) (record t { worker = old.number })
  pub keeps : Keeps now.lock.workers now.opening now.seen

-- it added these entries of its own, and gave the turn back
pub record Adds (now new : Shown) (added : List Entry) : Type 0 where
  pub lock : new.lock ≡ now.lock
  pub opening : new.opening ≡ now.opening
  pub number : new.number ≡ now.number
  pub seen : new.seen ≡ now.seen ++ added
  pub mine : new.mine ≡ now.mine ++ added
  pub own : own_of now.number added ≡ added
  pub keeps : Keeps new.lock.workers new.opening new.seen

-- ---- the hand of the seat

-- the seat is no worker's, or it is at these slots
abbrev pub IsAt : TableId → Option (Worker Offered) → Type 0
IsAt z None = Unit {0}
IsAt z (Some w) = w.slots ≡ z

-- with the turn, the Begin of the tick that the worker holds was recorded by it, unless it was learnt before
abbrev pub Meets : worlds.Shown → worlds.Shown → Option (Worker Offered) → Type 0
Meets old new None = (new ≡ old) × IsKept new
Meets old new (Some w) = Learns old new w.number × HasOpen new w

-- the worker gives this tick back, after all of its tasks ran
abbrev pub GivesIn : Option (Worker Offered) → Tick → Type 0
GivesIn None tick = ⊥
GivesIn (Some w) tick = GivesUp w tick
