-- The lists of all places hold each place within the limits once, in order.
use Rattle.std.specs.Prelude.{ℕ, ◌≡◌, Bool, nat_lt, List}
use Rattle.std.specs.List.{list_any}
use Rattle.std.specs.List.Sorted.{IsStrictlySortedBy}
use Rattle.std.specs.Ordering.{nat_cmp, eq_by_cmp}
use Rattle.std.specs.declared.cmp.Ordering.{Ordering}
use Rattle.fol_model.specs.Geometry.{is_section, is_chunk, is_block}
use Rattle.fol_model.specs.Universe.{all_sections, all_chunks, all_blocks, section_cmp, block_cmp, numbers_below, chunk_cmp}

pub record Lists {X : Type 0} (c : X → X → Ordering) (within : X → Bool) (all : List X) : Type 0 where
  -- in strict order, so that none is there twice
  pub order : IsStrictlySortedBy c all
  -- each one within the limits is there, and no other
  pub members : (x : X) → list_any (eq_by_cmp c x) all ≡ within x

abbrev pub SectionsAreListed : Type 0
SectionsAreListed = Lists section_cmp is_section all_sections

abbrev pub ChunksAreListed : Type 0
ChunksAreListed = Lists chunk_cmp is_chunk all_chunks

abbrev pub BlocksAreListed : Type 0
BlocksAreListed = Lists block_cmp is_block all_blocks

abbrev pub NumbersAreListed : Type 0
NumbersAreListed = (n : ℕ) → Lists nat_cmp (λ k. nat_lt k n) (numbers_below n)
