-- Which regions owe ticks.
use Rattle.std.specs.Prelude.{ℕ, ◌≡◌, ◌≢◌, false}
use Rattle.fol_model.specs.declared.regions.State.TheVariants.{Dead}
use Rattle.fol_model.specs.World.{World}
use Rattle.fol_laws.specs.Points.{AtEveryPoint}

-- while no phase is open no region owes a tick
abbrev pub OwesInPhase : World → Type 0
OwesInPhase w = w.in_phase ≡ false → (r : ℕ) → w.grid.state r ≢ Dead → w.owed r ≡ 0

abbrev pub NoneOwesOutsidePhases : Type 0
NoneOwesOutsidePhases = AtEveryPoint (λ o. OwesInPhase)
