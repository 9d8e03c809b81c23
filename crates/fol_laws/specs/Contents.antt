-- When two flat worlds are the same on some chunks.
use Rattle.std.specs.Prelude.{ℕ, ◌≡◌, true, if◌then◌else◌, Option, Some, None}
use Rattle.fol_model.specs.declared.places.BlockPos.{BlockPos}
use Rattle.fol_model.specs.Geometry.{chunk_of}
use Rattle.fol_model.specs.ActionStep.{Standing, Flat, Recorded}

-- the entity, where it stands in one of the chunks
abbrev pub seen : Recorded → Option Standing → Option Standing
seen rec None = None
seen rec (Some b) = if rec (chunk_of b.at) then Some b else None

-- the same blocks and the same entities in the chunks
pub record SameOn (rec : Recorded) (f h : Flat) : Type 0 where
  pub blocks : (b : BlockPos) → rec (chunk_of b) ≡ true → f.blocks b ≡ h.blocks b
  pub standing : (id : ℕ) → seen rec (f.standing id) ≡ seen rec (h.standing id)
