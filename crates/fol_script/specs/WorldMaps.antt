-- The blocks and entities that a world's reader kept, as lists.
use Rattle.std.specs.Prelude.{ℕ, Bool, nat_lt, List, map, filter}
use Rattle.fol_model.specs.declared.places.BlockPos.{BlockPos}
use Rattle.fol_model.specs.declared.openings.BlockAt.{BlockAt}
use Rattle.fol_script.specs.declared.world_lines.Spot.{Spot}

abbrev pub place_of : Spot → BlockPos
place_of s = record { x = s.x; y = s.y; z = s.z }

abbrev pub spot_of : BlockPos → Spot
spot_of b = record { x = b.x; y = b.y; z = b.z }

abbrev pub block_from : Spot × ℕ → BlockAt
block_from e = record { at = place_of e.0; id = e.1 }

abbrev pub is_stored : Spot × ℕ → Bool
is_stored e = nat_lt 0 e.1

-- the blocks with a number above 0
abbrev pub stored_blocks : List (Spot × ℕ) → List BlockAt
stored_blocks entries = map block_from (filter is_stored entries)

abbrev pub values_of : {K X : Type 0} → List (K × X) → List X
values_of entries = map (λ e. e.1) entries
