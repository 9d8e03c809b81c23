-- What changes where the list of one chunk changes.
use Rattle.std.proofs.Common.{◌≡◌, ℕ, ◌+◌, true, false, cond, List, ◌∷◌, length, sym, ◌∙◌, ap, subst, inl, inr, arith, Option, Some, None}
use Rattle.std.specs.Prelude.{ℤ, sum_by}
use Rattle.std.specs.List.{IsDistinct}
use Rattle.std.specs.List.Sorted.{IsPermutation}
use Rattle.std.specs.Map.{keys_of, values_of, set_value, remove_entry}
use Rattle.std.specs.Option.{is_some, option_map, unwrap_or}
use Rattle.std.proofs.lemmas.Bool.{cases_Bool}
use Rattle.std.proofs.lemmas.List.Sums.{sum_by-cons}
use Rattle.std.proofs.lemmas.Map.Entries.{sum_by-set_value, sum_by-remove_entry, sum_by_values_permutation}
use Rattle.fol_model.specs.declared.openings.BlockAt.{BlockAt}
use Rattle.fol_model.specs.declared.places.BlockPos.{BlockPos}
use Rattle.fol_blocks.specs.Cells.{AreCells, IsCell, blocks_at, blocks_in, cell_at, is_astray, items_of, key_at, lies_at, same_key}
use Rattle.fol_blocks.specs.Weights.{only, stands_at, Clears, OneMore, Puts, SameBlocks}
use Rattle.fol_blocks.proofs.Weighing.{length_sum, split}
use Rattle.fol_blocks.proofs.CellSums.{chunk_sum, flat_sum, items_there, key_same, place_sum, weigh}

-- the same lists in another order
module _ (es fs : List ((ℤ × ℤ) × List BlockAt)) where
  pub same_permuted : IsPermutation es fs → SameBlocks (blocks_in es) (blocks_in fs)
  same_permuted m f = flat_sum f fs ∙ sum_by_values_permutation (weigh f) es fs m ∙ sym (flat_sum f es)

  pub cells_permuted : AreCells es → IsDistinct same_key (keys_of fs) → ((q : ℤ × ℤ) → cell_at fs q ≡ cell_at es q) → AreCells fs
  cells_permuted a d u = record { keys = d; cells = λ q cell e. a.cells q cell (sym (u q) ∙ e) }

module _ (es fs : List ((ℤ × ℤ) × List BlockAt)) (key : ℤ × ℤ) where
  -- one key has another list, or none
  cells_updated : AreCells es → (o : Option (List BlockAt)) → ((w : List BlockAt) → o ≡ Some w → IsCell key w) → IsDistinct same_key (keys_of fs) → ((q : ℤ × ℤ) → cell_at fs q ≡ cond (same_key key q) o (cell_at es q)) → AreCells fs
  cells_updated a o h d u = record {
    keys = d;
    cells = λ q cell e.
        elim (cases_Bool (same_key key q)) [
          | inl t ↦
              let found : o ≡ Some cell = sym (u q ∙ ap (λ b. cond b o (cell_at es q)) t) ∙ e in
              let P : ℤ × ℤ → Type 0 = λ k. IsCell k cell in
              subst P (key_same key q t) (h cell found)
          | inr n ↦ a.cells q cell (sym (u q ∙ ap (λ b. cond b o (cell_at es q)) n) ∙ e)
        ];
  }

  -- a key has this list
  pub cells_written : AreCells es → (w : List BlockAt) → IsCell key w → IsDistinct same_key (keys_of fs) → ((q : ℤ × ℤ) → cell_at fs q ≡ cond (same_key key q) (Some w) (cell_at es q)) → AreCells fs
  cells_written a w c d u = cells_updated a (Some w) (λ v e. let same : w ≡ v = cc in let P : List BlockAt → Type 0 = λ z. IsCell key z in subst P same c) d u

  -- a key has none
  pub cells_less : AreCells es → IsDistinct same_key (keys_of fs) → ((q : ℤ × ℤ) → cell_at fs q ≡ cond (same_key key q) None (cell_at es q)) → AreCells fs
  cells_less a d u = cells_updated a None (λ v e. let none : None ≡ Some v = e in absurd cc) d u

  -- a chunk gets its list
  pub opened : (v : List BlockAt) → IsPermutation ((key, v) ∷ es) fs → (f : BlockAt → ℕ) → sum_by f (blocks_in fs) ≡ sum_by f v + sum_by f (blocks_in es)
  opened v m f =
      omega (arith, flat_sum f es, flat_sum f fs, sum_by_values_permutation (weigh f) ((key, v) ∷ es) fs m, sum_by-cons (weigh f) v (values_of es))

  -- a chunk has its list no more
  pub taken : IsPermutation (remove_entry (same_key key) es) fs → (f : BlockAt → ℕ) → sum_by f (blocks_in fs) + sum_by f (blocks_at es key) ≡ sum_by f (blocks_in es)
  taken m f =
      omega (arith, flat_sum f es, flat_sum f fs, sum_by_values_permutation (weigh f) (remove_entry (same_key key) es) fs m, sum_by-remove_entry (weigh f) (same_key key) es, weight (cell_at es key))
    where
      weight : (o : Option (List BlockAt)) → unwrap_or (option_map (weigh f) o) 0 ≡ sum_by f (items_of o)
      weight None = λ i. 0
      weight (Some v) = λ i. sum_by f v

  -- a chunk has another list
  module _ (v w : List BlockAt) (there : cell_at es key ≡ Some v) (e : fs ≡ set_value (same_key key) es w) where
    pub written : (f : BlockAt → ℕ) → sum_by f (blocks_in fs) + sum_by f v ≡ sum_by f (blocks_in es) + sum_by f w
    written f = omega (arith, flat_sum f es, flat_sum f fs, ap (λ l. sum_by (weigh f) (values_of l)) e, sum_by-set_value (weigh f) (same_key key) es v w there)

    -- there are as many more blocks as in the list
    pub len_written : length (blocks_in fs) + length v ≡ length (blocks_in es) + length w
    len_written = omega (arith, written (λ x. 1), length_sum (blocks_in fs), length_sum (blocks_in es), length_sum v, length_sum w)

    at_place : AreCells es → (b : BlockPos) (f : BlockAt → ℕ) → key ≡ key_at b → sum_by (only (stands_at b) f) (blocks_in es) ≡ sum_by (only (stands_at b) f) v
    at_place a b f k = place_sum es a key b f k ∙ ap (sum_by (only (stands_at b) f)) (items_there es key v there)

    pub puts_written : AreCells es → (y : BlockAt) → key ≡ key_at y.at → Puts v w y → Puts (blocks_in es) (blocks_in fs) y
    puts_written a y k h f = omega (arith, written f, h f, split (stands_at y.at) f (blocks_in es), split (stands_at y.at) f v, at_place a y.at f k)

    pub clears_written : AreCells es → (b : BlockPos) → key ≡ key_at b → Clears v w b → Clears (blocks_in es) (blocks_in fs) b
    clears_written a b k h f = omega (arith, written f, h f, split (stands_at b) f (blocks_in es), split (stands_at b) f v, at_place a b f k)

    pub more_written : (y : BlockAt) → OneMore v w y → OneMore (blocks_in es) (blocks_in fs) y
    more_written y h f = omega (arith, written f, h f)

    pub same_written : w ≡ v → SameBlocks (blocks_in es) (blocks_in fs)
    same_written h f = omega (arith, written f, ap (sum_by f) h)

pub no_such : {X : Type 0} (o : Option X) → is_some o ≡ false → o ≡ None
no_such None e = λ i. None
no_such (Some x) e = let t : true ≡ false = e in absurd cc

module _ (es fs : List ((ℤ × ℤ) × List BlockAt)) (key : ℤ × ℤ) (a : AreCells es) where
  -- a chunk has its list no more: the blocks of other chunks are left
  pub left_taken : IsPermutation (remove_entry (same_key key) es) fs → (f : BlockAt → ℕ) → sum_by f (blocks_in fs) ≡ sum_by (only (is_astray key) f) (blocks_in es)
  left_taken m f = omega (arith, taken es fs key m f, split (lies_at key) f (blocks_in es), chunk_sum es a key f)
