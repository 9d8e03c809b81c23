-- Quiet ticks of several regions.
use Rattle.std.specs.Prelude.{ℕ, ◌≡◌, List, [], ◌∷◌, ◌++◌, length}
use Rattle.fol_model.specs.declared.events.Entry.{Entry}
use Rattle.fol_core.specs.Meaning.{Meaning, is_prepared}
use Rattle.fol_core.specs.Quiet.{quiet_tick}

-- a quiet tick of a region, with the counter of its End
pub record QuietTick : Type 0 where
  pub region : ℕ
  pub counter : ℕ

-- the Begins and Ends of such ticks by one worker, one tick after another
unfoldable pub quiet_entries : ℕ → List QuietTick → List Entry
quiet_entries worker [] = []
quiet_entries worker (t ∷ ts) = quiet_tick worker t.region t.counter ++ quiet_entries worker ts

-- so many such ticks were recorded, of whichever regions, and nothing else
pub record PassesMany (old new : Meaning) (worker n : ℕ) : Type 0 where
  pub ticks : List QuietTick
  pub count : length ticks ≡ n
  pub opening : new.opening ≡ old.opening
  pub history : new.history ≡ old.history ++ quiet_entries worker ticks
  pub prepared : is_prepared new ≡ is_prepared old
