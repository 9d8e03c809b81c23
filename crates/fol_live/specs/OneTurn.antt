-- What a turn adds to what its seat knows.
use Rattle.std.specs.Prelude.{◌≡◌, List, [], ◌∷◌, ◌++◌}
use Rattle.std.specs.List.{AllByRecursion}
use Rattle.fol_model.specs.declared.events.Event.{Event}
use Rattle.fol_model.specs.declared.events.Entry.{Entry}
use Rattle.fol_core.specs.Meaning.{Records, Stays}
use Rattle.fol_live.specs.Kept.{Keeps}
use Rattle.fol_live.specs.Turns.{IsLate}
use Rattle.fol_live.specs.Calls.{Turn}
use Rattle.fol_live.specs.Goes.{Goes}
use Rattle.fol_live.specs.Seat.{Shown, meaning_of}

-- the seat recorded Begins that it learnt of, and then just this event, and it is the last that it has seen
pub record EndsWith (old new : Shown) (event : Event) : Type 0 where
  pub learnt : List Entry
  pub late : AllByRecursion (IsLate old.number) learnt
  pub goes : Goes old new (learnt ++ (record { by = old.number; event = event }) ∷ [])
  pub others : List Entry
  pub last : new.seen ≡ old.seen ++ (others ++ (record { by = old.number; event = event }) ∷ [])
  pub keeps : Keeps new.lock.workers new.opening new.seen

-- the seat recorded nothing but Begins that it learnt of
pub record EndsStill (old new : Shown) : Type 0 where
  pub learnt : List Entry
  pub late : AllByRecursion (IsLate old.number) learnt
  pub goes : Goes old new learnt
  pub keeps : Keeps new.lock.workers new.opening new.seen

-- ---- laws

-- a turn in which the core recorded an event
abbrev pub OneEventIsOwn : Type 0
OneEventIsOwn = (old now new : Shown) (event : Event) → Turn old now new → Records (meaning_of now) (meaning_of new) old.number event → EndsWith old new event

-- a turn in which it recorded none
abbrev pub NoEventIsOwn : Type 0
NoEventIsOwn = (old now new : Shown) → Turn old now new → Stays (meaning_of now) (meaning_of new) → EndsStill old new
