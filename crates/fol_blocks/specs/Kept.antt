-- How the blocks of a region are kept.
use Rattle.std.specs.Prelude.{◌≡◌, ℕ, ◌-◌, ◌≤◌, nat_eq, nat_lt, min, cond, Bool, List, ◌++◌, length, count_by, vec_len}
use Rattle.std.specs.Vec.{vec_capacity}
use Rattle.std.specs.List.Sorted.{IsStrictlySortedBy}
use Rattle.fol_model.specs.declared.openings.BlockAt.{BlockAt}
use Rattle.fol_model.specs.declared.places.BlockPos.{BlockPos}
use Rattle.fol_blocks.specs.Order.{by_place}
use Rattle.fol_blocks.specs.Cells.{AreCells, blocks_in}
use Rattle.fol_blocks.specs.Weights.{stands_at}
use Rattle.fol_blocks.specs.declared.blocks.Blocks.{Blocks}
use Rattle.fol_blocks.specs.declared.blocks.TheConstants.{MOST_BLOCKS}

-- the blocks of the chunks, and then the fresh ones
abbrev pub blocks_of : Blocks → List BlockAt
blocks_of b = blocks_in b.cells.entries ++ b.fresh.items

-- how many more blocks it can take without taking memory: all of them fit among the fresh ones
abbrev pub room_of : Blocks → ℕ
room_of b = min (vec_capacity b.fresh - vec_len b.fresh) (MOST_BLOCKS - b.len)

-- 1 where the number is above 0
abbrev pub one_if_filled : ℕ → ℕ
one_if_filled n = cond (nat_lt 0 n) 1 0

-- the block has number 0
abbrev pub is_bare : BlockAt → Bool
is_bare x = nat_eq x.id 0

-- the fresh blocks stand in order of place, no place has two blocks, and no block has number 0
pub record AreLaid (b : Blocks) : Type 0 where
  pub cells : AreCells b.cells.entries
  pub fresh_order : IsStrictlySortedBy by_place b.fresh.items
  pub once : (at : BlockPos) → count_by (stands_at at) (blocks_of b) ≤ 1
  pub full : count_by is_bare (blocks_of b) ≡ 0

-- the blocks are laid so, and counted
pub record IsKept (b : Blocks) : Type 0 where
  pub laid : AreLaid b
  pub len : b.len ≡ length (blocks_of b)
  pub few : b.len ≤ MOST_BLOCKS
