-- What contracts see of a seat.
use Rattle.std.specs.Prelude.{ℕ, ◌≡◌, ◌≤◌, false, List, [], Option, Some, None}
use Rattle.atomic_table.specs.Seated.{TableId}
use Rattle.fol_model.specs.GridNumbers.{numbers}
use Rattle.fol_model.specs.declared.openings.Opening.{Opening}
use Rattle.fol_model.specs.declared.events.Entry.{Entry}
use Rattle.fol_core.specs.Meaning.{Meaning, Nothing}
use Rattle.fol_data.specs.declared.tick.Tick.{Tick}
use Rattle.fol_lock.specs.Seat.{LockId}
use Rattle.fol_lock.specs.Seat as locks
use Rattle.fol_seat_laws.specs.Signed.{own_of}
use Rattle.fol_slots.specs.Shown.{Worker}
use Rattle.fol_offers.specs.Offered.{Offered}
use Rattle.fol_live.specs.declared.origin.Origin.{Origin}
use Rattle.fol_live.specs.Hands.{tick_in}
use Rattle.fol_live.specs.Sights.{IsSight}
use Rattle.fol_live.specs.declared.sight.Sight.{Sight}

-- which shared world it is: no two share their lock or their slots
pub record LiveId : Type 0 where
  pub lock : LockId
  pub slots : TableId
  -- how many workers it has
  pub workers : ℕ

pub record Shown : Type 0 where
  pub lock : LiveId
  -- the opening of the world
  pub opening : Opening
  pub number : ℕ
  -- the history, as far as the seat has seen it
  pub seen : List Entry
  -- the entries that the seat recorded, in order
  pub mine : List Entry
  -- what a worker's seat has of the slots; that of seat 0 has nothing
  pub hand : Option (Worker Offered)

-- the tick that a worker claimed and did not give back, as it was offered
abbrev pub held_in : Option (Worker Offered) → Option Tick
held_in None = None
held_in (Some w) = tick_in w.claimed

-- the tick that the seat claimed and did not give back, as it was offered
abbrev pub held : Shown → Option Tick
held s = held_in s.hand

-- the origin that a seat of the lock names; each has one, so what stands for None is never met
abbrev pub origin_of : Option Origin → Origin
origin_of (Some o) = o
origin_of None = record {
  opening = record { version = 0; grid = numbers 0 0 0 0 0 0; blocks = []; entities = [] };
  slots = record { words = 0; slots = 0; views_name = 0; atom = 0; block = 0; offset = 0; slot_names = [] };
  workers = 0;
}

abbrev pub shown : Origin → locks.Shown Origin Entry → Option (Worker Offered) → Shown
shown o s hand = record {
  lock = record { lock = s.lock; slots = o.slots; workers = o.workers };
  opening = o.opening;
  number = s.number;
  seen = s.seen;
  mine = s.mine;
  hand = hand;
}

-- the worker of this number, at the slots of this origin, of which there are as many as there can be regions that are Ready or tick
pub record IsOf (o : Origin) (number : ℕ) (w : Worker Offered) : Type 0 where
  pub sized : o.slots.slots ≡ 1820
  pub slots : w.slots ≡ o.slots
  pub number_is : w.number ≡ number
  pub some : 1 ≤ number

-- seat 0 is no worker's, and each other is
abbrev pub HasHand : Origin → ℕ → Option (Worker Offered) → Type 0
HasHand o number None = number ≡ 0
HasHand o number (Some w) = IsOf o number w

-- the seat of the lock has no turn, is of a world of this origin, and its entries are those of its number in what it has seen
pub record IsSeat (o : Origin) (s : locks.Shown Origin Entry) : Type 0 where
  pub idle : s.has_turn ≡ false
  pub origin : s.origin ≡ Some o
  pub own : own_of s.number s.seen ≡ s.mine

-- what is kept of what it has seen is of just that
abbrev pub HasSight : Origin → locks.Shown Origin Entry → Sight → Type 0
HasSight o s sight = IsSight o.opening s.seen sight

-- what a core would stand for that has just the history that the seat has seen
abbrev pub meaning_of : Shown → Meaning
meaning_of s = record { opening = s.opening; history = s.seen; prepared = []; room = Nothing }
