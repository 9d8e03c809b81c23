-- What a core stands for.
use Rattle.std.specs.Prelude.{◌≡◌, ℕ, Bool, false, List, [], ◌∷◌, ◌++◌, length, slice_index_or}
use Rattle.fol_model.specs.Counting.{count_below}
use Rattle.fol_model.specs.declared.openings.Opening.{Opening}
use Rattle.fol_model.specs.declared.events.Event.{Event}
use Rattle.fol_model.specs.declared.events.Entry.{Entry}
use Rattle.fol_model.specs.World.{World}
use Rattle.fol_model.specs.Run.{world}

-- what a core has taken memory for
pub data Reserved : Type 0 where
  Nothing : Reserved
  -- the next Begin of this region
  ForBegin : ℕ → Reserved
  -- an End with so many wishes
  ForEnd : ℕ → Reserved

pub record Meaning : Type 0 where
  pub opening : Opening
  pub history : List Entry
  -- whether a region is prepared, by id: its tick is out, and no Begin of it is recorded
  pub prepared : List Bool
  -- what comes next and has its memory, if there is such a thing; no part of what the core stands for
  pub room : Reserved

abbrev pub world_of : Meaning → World
world_of m = world m.opening m.history

-- whether the list has the mark of a region
abbrev pub mark : List Bool → ℕ → Bool
mark marks r = slice_index_or marks r false

-- the tick of the region is out, and no Begin of it is recorded
abbrev pub is_prepared : Meaning → ℕ → Bool
is_prepared m = mark m.prepared

-- a Begin of this region needs no more memory
abbrev pub IsReadyToBegin : Meaning → ℕ → Type 0
IsReadyToBegin m id = m.room ≡ ForBegin id

-- the core stands for what it stood for
pub record Stays (old new : Meaning) : Type 0 where
  pub opening : new.opening ≡ old.opening
  pub history : new.history ≡ old.history
  pub prepared : is_prepared new ≡ is_prepared old

-- the core stands for what it stood for, and a Begin or an End that had its memory has it still
pub record Unchanged (old new : Meaning) : Type 0 where
  pub opening : new.opening ≡ old.opening
  pub history : new.history ≡ old.history
  pub prepared : is_prepared new ≡ is_prepared old
  pub room : new.room ≡ old.room

-- one entry more, by this seat
pub record Records (old new : Meaning) (by : ℕ) (event : Event) : Type 0 where
  pub opening : new.opening ≡ old.opening
  pub history : new.history ≡ old.history ++ (record { by = by; event = event }) ∷ []
  pub prepared : is_prepared new ≡ is_prepared old

-- how many regions have a mark in the list
unfoldable pub mark_count : List Bool → ℕ
mark_count marks = count_below (mark marks) (length marks)
