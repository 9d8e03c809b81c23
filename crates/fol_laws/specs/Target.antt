-- Which region the sections of an Add go to.
use Rattle.std.specs.Prelude.{ℕ, ◌≡◌, ◌≤◌, IsTrue, false, ◌⊎◌}
use Rattle.fol_model.specs.declared.places.ChunkPos.{ChunkPos}
use Rattle.fol_model.specs.Geometry.{is_chunk}
use Rattle.fol_model.specs.GridNumbers.{IsGrid}
use Rattle.fol_model.specs.GridState.{GridState, size}
use Rattle.fol_model.specs.Add.{target, is_near_calm}
use Rattle.fol_model.specs.Rules.{Rules}

-- of the near regions that are not Ticking none has more sections than t, and t is the lowest of those with as many
pub record IsLargest (g : GridState) (c : ChunkPos) (t : ℕ) : Type 0 where
  pub near : IsTrue (is_near_calm g c t)
  pub most : (q : ℕ) → IsTrue (is_near_calm g c q) → size g q ≤ size g t
  pub lowest : (q : ℕ) → IsTrue (is_near_calm g c q) → size g q ≡ size g t → t ≤ q

-- the target is the largest of the near regions that are not Ticking, and the lowest of several, or the next id where there is none
abbrev pub TargetIsLargest : GridState → ChunkPos → Type 0
TargetIsLargest g c = IsLargest g c (target g c) ⊎ ((target g c ≡ g.next) × ((q : ℕ) → is_near_calm g c q ≡ false))

abbrev pub AddTargetsTheLargest : Type 0
AddTargetsTheLargest = (g : GridState) (c : ChunkPos) → Rules g → IsGrid g.grid → IsTrue (is_chunk c) → TargetIsLargest g c
