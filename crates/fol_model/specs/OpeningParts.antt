-- The world before its history.
use Rattle.std.specs.Prelude.{ℕ, ◌≤◌, IsTrue, Bool, ◌&&◌, nat_lt, nat_le, List, map}
use Rattle.std.specs.List.{list_all}
use Rattle.std.specs.List.Sorted.{IsStrictlySortedBy}
use Rattle.std.specs.Ordering.{nat_cmp}
use Rattle.fol_model.specs.declared.entities.Entity.{Entity}
use Rattle.fol_model.specs.declared.openings.BlockAt.{BlockAt}
use Rattle.fol_model.specs.GridNumbers.{GridNumbers, IsGrid}
use Rattle.fol_model.specs.Geometry.{is_block}
use Rattle.fol_model.specs.Limits.{is_entity}
use Rattle.fol_model.specs.Universe.{block_cmp}

pub record OpeningParts : Type 0 where
  -- the version of the language of its text
  pub version : ℕ
  pub grid : GridNumbers
  pub blocks : List BlockAt
  pub entities : List Entity

-- a block within the limits, with a number above 0
abbrev pub is_block_at : BlockAt → Bool
is_block_at b = is_block b.at && (nat_lt 0 b.id && nat_le b.id 65535)

pub record IsOpening (o : OpeningParts) : Type 0 where
  pub version_low : 1 ≤ o.version
  pub version_high : o.version ≤ 2
  pub grid : IsGrid o.grid
  pub each_block : IsTrue (list_all is_block_at o.blocks)
  pub each_entity : IsTrue (list_all is_entity o.entities)
  -- in order of (x, y, z), so that no two are at one place
  pub block_order : IsStrictlySortedBy block_cmp (map (λ b. b.at) o.blocks)
  -- in order of id, so that no two have one id
  pub entity_order : IsStrictlySortedBy nat_cmp (map (λ e. e.id) o.entities)
