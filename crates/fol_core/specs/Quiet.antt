-- Quiet ticks: no task is due in them.
use Rattle.std.specs.Prelude.{ℕ, zero, suc, ◌≡◌, ◌+◌, List, [], ◌∷◌, ◌++◌}
use Rattle.fol_model.specs.declared.events.Event.TheVariants.{Begin, End}
use Rattle.fol_model.specs.declared.events.Entry.{Entry}
use Rattle.fol_core.specs.Meaning.{Meaning, is_prepared, world_of}

-- the Begin of a tick, and behind it its End with this counter, in which no task ran
abbrev pub quiet_tick : ℕ → ℕ → ℕ → List Entry
quiet_tick worker r tick = (record { by = worker; event = Begin worker r }) ∷ (record { by = worker; event = End worker r tick [] [] }) ∷ []

-- n such ticks of a region by one worker, one after another; the counter was t before them
unfoldable pub quiet_ticks : ℕ → ℕ → ℕ → ℕ → List Entry
quiet_ticks worker r t zero = []
quiet_ticks worker r t (suc n) = quiet_ticks worker r t n ++ quiet_tick worker r (t + suc n)

-- so many such ticks were recorded, and nothing else
pub record Passes (old new : Meaning) (worker r n : ℕ) : Type 0 where
  pub opening : new.opening ≡ old.opening
  pub history : new.history ≡ old.history ++ quiet_ticks worker r ((world_of old).tick r) n
  pub prepared : is_prepared new ≡ is_prepared old
