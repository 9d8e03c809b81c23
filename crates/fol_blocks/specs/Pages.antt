-- Blocks in pages.
use Rattle.std.specs.Prelude.{◌≡◌, ℕ, ◌+◌, ◌<◌, ◌≤◌, not, Bool, true, List, [], ◌∷◌, length, take, All, slice_index_or}
use Rattle.std.specs.Global.{Vec}
use Rattle.std.specs.List.{AllWithin, flat_map}
use Rattle.std.specs.List.Sorted.{IsStrictlySortedBy, IsPartitionPoint}
use Rattle.std.specs.Ordering.{is_gt}
use Rattle.std.specs.declared.cmp.Ordering.TheVariants.{Less, Greater}
use Rattle.fol_model.specs.declared.openings.BlockAt.{BlockAt}
use Rattle.fol_model.specs.declared.places.BlockPos.{BlockPos}
use Rattle.fol_model.specs.Universe.{block_cmp}
use Rattle.fol_blocks.specs.declared.pages.Spot.{Spot}
use Rattle.fol_blocks.specs.declared.pages.TheConstants.{HALF_PAGE, MOST_IN_PAGE}
use Rattle.fol_blocks.specs.Order.{by_place}

-- the block of a place stands here
abbrev pub Found : List BlockAt → BlockPos → ℕ → Type 0
Found xs b i = (i < length xs) × ((e : BlockAt) → (slice_index_or xs i e).at ≡ b)

-- no block has the place, and one that had it would stand here
abbrev pub Lacking : List BlockAt → BlockPos → ℕ → Type 0
Lacking xs b i = (i ≤ length xs) × IsPartitionPoint (λ x. block_cmp x.at b ≡ Less) (λ x. block_cmp x.at b ≡ Greater) xs i

-- the blocks of all pages
abbrev pub blocks_on : List (Vec BlockAt) → List BlockAt
blocks_on pages = flat_map (λ p. p.items) pages

-- how many blocks stand before a page
abbrev pub start_of : List (Vec BlockAt) → ℕ → ℕ
start_of pages i = length (blocks_on (take i pages))

-- where in the list of all blocks a spot is
abbrev pub place_of : List (Vec BlockAt) → Spot → ℕ
place_of pages s = start_of pages s.page + s.index

-- a page has blocks, and no more than there may be
abbrev pub IsPage : Vec BlockAt → Type 0
IsPage p = (0 < length p.items) × (length p.items ≤ MOST_IN_PAGE)

-- pages whose blocks, one page behind another, stand in order of place
pub record ArePages (pages : List (Vec BlockAt)) : Type 0 where
  pub order : IsStrictlySortedBy by_place (blocks_on pages)
  pub sizes : All IsPage pages

-- the page has this spot
abbrev pub HasSpot : List (Vec BlockAt) → Spot → Type 0
HasSpot pages s = (s.page < length pages) × ((d : Vec BlockAt) → s.index < length (slice_index_or pages s.page d).items)

-- a block can be put in at this spot: where there are pages, in one of them
abbrev pub TakesSpot : List (Vec BlockAt) → Spot → Type 0
TakesSpot pages s = (s.page ≤ length pages) × ((d : Vec BlockAt) → s.page < length pages → s.index ≤ length (slice_index_or pages s.page d).items)
    × (s.page ≡ length pages → s.index ≡ 0)

-- the first block of a page does not stand behind a place
abbrev pub starts_by : BlockPos → List BlockAt → Bool
starts_by at [] = true
starts_by at (x ∷ xs) = not (is_gt (block_cmp x.at at))

-- the blocks before a page stand before the place, and those behind the page stand behind it
pub record IsAround (pages : List (Vec BlockAt)) (at : BlockPos) (i : ℕ) : Type 0 where
  pub before : AllWithin (λ x. block_cmp x.at at ≡ Less) (blocks_on pages) 0 (start_of pages i)
  pub behind : AllWithin (λ x. block_cmp x.at at ≡ Greater) (blocks_on pages) (start_of pages (i + 1)) (length (blocks_on pages))

-- a page is split: its blocks are on two pages, with half as many on each
pub record IsSplit (pages split : List (Vec BlockAt)) (i : ℕ) : Type 0 where
  pub len : length split ≡ length pages + 1
  pub start : start_of split i ≡ start_of pages i
  pub front : (d : Vec BlockAt) → length (slice_index_or split i d).items ≡ HALF_PAGE
  pub back_start : start_of split (i + 1) ≡ start_of pages i + HALF_PAGE
  pub back : (d : Vec BlockAt) → length (slice_index_or split (i + 1) d).items ≡ HALF_PAGE
