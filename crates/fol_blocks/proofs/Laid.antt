-- How the blocks of a region are kept after a change.
use Rattle.std.proofs.Common.{◌≡◌, ℕ, ◌+◌, ◌≤◌, Bool, cond, List, [], ◌∷◌, ◌++◌, ap, arith}
use Rattle.std.specs.Prelude.{sum_by}
use Rattle.std.specs.List.Sorted.{IsStrictlySortedBy}
use Rattle.std.proofs.lemmas.List.Sums.{sum_by-append, sum_by-cons}
use Rattle.fol_model.specs.declared.openings.BlockAt.{BlockAt}
use Rattle.fol_model.specs.declared.places.BlockPos.{BlockPos}
use Rattle.fol_blocks.specs.Order.{by_place}
use Rattle.fol_blocks.specs.Cells.{AreCells}
use Rattle.fol_blocks.specs.Kept.{blocks_of, is_bare, AreLaid, IsKept}
use Rattle.fol_blocks.specs.Weights.{only, one_at, OneMore, SameBlocks, Sets}
use Rattle.fol_blocks.specs.declared.blocks.Blocks.{Blocks}
use Rattle.fol_blocks.proofs.Weighing.{only_less}
use Rattle.fol_blocks.proofs.Wholes.{full_set, len_same, once_set}

module _ (a b : Blocks) (laid : AreLaid a) (cells : AreCells b.cells.entries) (order : IsStrictlySortedBy by_place b.fresh.items) where
  pub laid_set : (y : BlockAt) → Sets (blocks_of a) (blocks_of b) y → AreLaid b
  laid_set y h = record {
    cells = cells;
    fresh_order = order;
    once = once_set (blocks_of a) (blocks_of b) y h laid.once;
    full = full_set (blocks_of a) (blocks_of b) y h laid.full;
  }

  pub laid_same : SameBlocks (blocks_of a) (blocks_of b) → AreLaid b
  laid_same h = record {
    cells = cells;
    fresh_order = order;
    once = λ at. omega (arith, h (one_at at), laid.once at);
    full = omega (arith, h (λ x. cond (is_bare x) 1 0), laid.full);
  }

-- the same blocks, kept and counted as before
pub kept_same : (a b : Blocks) → IsKept a → AreCells b.cells.entries → IsStrictlySortedBy by_place b.fresh.items → b.len ≡ a.len → SameBlocks (blocks_of a) (blocks_of b) → IsKept b
kept_same a b k cells order n h = record {
  laid = laid_same a b k.laid cells order h;
  len = omega (arith, n, k.len, len_same (blocks_of a) (blocks_of b) h);
  few = omega (arith, n, k.few);
}

-- a block that goes from the fresh ones to its chunk
pub same_settled : (xs us ys vs : List BlockAt) (y : BlockAt) → OneMore xs us y → ys ≡ vs ++ y ∷ [] → SameBlocks (xs ++ ys) (us ++ vs)
same_settled xs us ys vs y h e f =
    omega (arith, h f, ap (sum_by f) e, sum_by-append f vs (y ∷ []), sum_by-cons f y [], sum_by-append f us vs, sum_by-append f xs ys)

-- some of the blocks
pub laid_some : (a b : Blocks) (p : BlockAt → Bool) → AreLaid a → AreCells b.cells.entries → IsStrictlySortedBy by_place b.fresh.items → ((f : BlockAt → ℕ) → sum_by f (blocks_of b) ≡ sum_by (only p f) (blocks_of a)) → AreLaid b
laid_some a b p laid cells order h = record {
  cells = cells;
  fresh_order = order;
  once = λ at. omega (arith, h (one_at at), only_less p (one_at at) (blocks_of a), laid.once at);
  full = omega (arith, h (λ x. cond (is_bare x) 1 0), only_less p (λ x. cond (is_bare x) 1 0) (blocks_of a), laid.full);
}

-- all of the blocks, and some of others that are apart
pub laid_more : (a c b : Blocks) (p : BlockAt → Bool) → AreLaid a → AreLaid c → AreCells b.cells.entries → IsStrictlySortedBy by_place b.fresh.items
    → ((at : BlockPos) → sum_by (one_at at) (blocks_of a) + sum_by (only p (one_at at)) (blocks_of c) ≤ 1)
    → ((f : BlockAt → ℕ) → sum_by f (blocks_of b) ≡ sum_by f (blocks_of a) + sum_by (only p f) (blocks_of c)) → AreLaid b
laid_more a c b p laid others cells order apart h = record {
  cells = cells;
  fresh_order = order;
  once = λ at. omega (arith, h (one_at at), apart at);
  full = omega (arith, h (λ x. cond (is_bare x) 1 0), only_less p (λ x. cond (is_bare x) 1 0) (blocks_of c), laid.full, others.full);
}
