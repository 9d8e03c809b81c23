-- The blocks between two columns and two rows, and how entities walk there.
use Rattle.std.specs.Prelude.{ℕ, ℤ, pos, ◌+ℤ◌, ◌*ℤ◌, int_le, Bool, ◌&&◌, if◌then◌else◌}
use Rattle.std.specs.Fn.{iterate}
use Rattle.fol_model.specs.declared.entities.Entity.{Entity}
use Rattle.fol_model.specs.FlatTick.{ahead}
use Rattle.fol_chunks.specs.declared.area.Area.{Area}
use Rattle.fol_chunks.specs.declared.owed.Owed.{Owed}

-- a number is neither below `low` nor above `high`
abbrev pub is_from_to : ℤ → ℤ → ℤ → Bool
is_from_to low high x = int_le low x && int_le x high

-- the blocks with these coordinates lie between the columns and between the rows
abbrev pub is_in_area : ℤ → ℤ → ℤ → ℤ → ℤ → ℤ → Bool
is_in_area west east north south x z = is_from_to west east x && is_from_to north south z

abbrev pub is_inside : Area → ℤ → ℤ → Bool
is_inside area x z = is_in_area area.west area.east area.north area.south x z

-- an entity goes ahead where it is and stays inside the area
abbrev pub stepped_in : Area → Entity → Entity
stepped_in area e = if (is_inside area e.at.x e.at.z && is_inside area (e.at.x +ℤ e.vx) (e.at.z +ℤ e.vz)) then record e { at = ahead e.vx e.vz e.at } else e

-- where a coordinate is after so many steps
abbrev pub place_after : ℤ → ℤ → ℕ → ℤ
place_after at speed steps = at +ℤ (pos steps *ℤ speed)

-- an entity after the movements that are owed to it
abbrev pub paid : Owed → Entity → Entity
paid owed e = iterate (stepped_in owed.area) owed.steps e
