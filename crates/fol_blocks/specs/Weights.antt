-- Lists of blocks without their order: a weight of blocks has one sum over lists that have the same blocks, each as often.
use Rattle.std.specs.Prelude.{◌≡◌, ℕ, ◌+◌, Bool, not, nat_lt, cond, if◌then◌else◌, List, sum_by}
use Rattle.fol_model.specs.declared.openings.BlockAt.{BlockAt}
use Rattle.fol_model.specs.declared.places.BlockPos.{BlockPos}
use Rattle.fol_model.specs.declared.places.ChunkPos.{ChunkPos}
use Rattle.fol_model.specs.Geometry.{chunk_of, same_block}
use Rattle.fol_keyed.specs.Members.{is_listed}

-- a weight of the blocks that pass, where the others weigh nothing
unfoldable pub only : (BlockAt → Bool) → (BlockAt → ℕ) → BlockAt → ℕ
only p f x = if p x then f x else 0

-- how many of one block stand at a place
abbrev pub one_at : BlockPos → BlockAt → ℕ
one_at b x = cond (same_block x.at b) 1 0

abbrev pub stands_at : BlockPos → BlockAt → Bool
stands_at b x = same_block x.at b

abbrev pub stands_elsewhere : BlockPos → BlockAt → Bool
stands_elsewhere b x = not (same_block x.at b)

abbrev pub lies_in : List ChunkPos → BlockAt → Bool
lies_in chunks x = is_listed chunks (chunk_of x.at)

abbrev pub lies_outside : List ChunkPos → BlockAt → Bool
lies_outside chunks x = not (is_listed chunks (chunk_of x.at))

-- the same blocks, each as often
abbrev pub SameBlocks : List BlockAt → List BlockAt → Type 0
SameBlocks xs ys = (f : BlockAt → ℕ) → sum_by f ys ≡ sum_by f xs

-- one block more
abbrev pub OneMore : List BlockAt → List BlockAt → BlockAt → Type 0
OneMore xs ys y = (f : BlockAt → ℕ) → sum_by f ys ≡ f y + sum_by f xs

-- without the blocks at a place
abbrev pub Clears : List BlockAt → List BlockAt → BlockPos → Type 0
Clears xs ys b = (f : BlockAt → ℕ) → sum_by f ys ≡ sum_by (only (stands_elsewhere b) f) xs

-- with this block in place of those at its place
abbrev pub Puts : List BlockAt → List BlockAt → BlockAt → Type 0
Puts xs ys y = (f : BlockAt → ℕ) → sum_by f ys ≡ f y + sum_by (only (stands_elsewhere y.at) f) xs

-- the block has a number
abbrev pub is_filled : BlockAt → Bool
is_filled x = nat_lt 0 x.id

-- with this block in place of those at its place, and without any there where it has number 0
abbrev pub Sets : List BlockAt → List BlockAt → BlockAt → Type 0
Sets xs ys y = (f : BlockAt → ℕ) → sum_by f ys ≡ only is_filled f y + sum_by (only (stands_elsewhere y.at) f) xs
