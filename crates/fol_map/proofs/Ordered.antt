-- Columns and rows in order.
use Rattle.std.proofs.Common.{◌≡◌, ℕ, ◌<◌, refl, sym, ap, ◌∙◌, arith, List, [], ◌∷◌, length}
use Rattle.std.specs.Prelude.{ℤ, Option, Some, None, nat_lt, is_some}
use Rattle.std.specs.Option.{IfSome, unwrap_or}
use Rattle.std.specs.List.{list_any}
use Rattle.std.specs.List.Sorted.{IsStrictlySortedBy}
use Rattle.std.specs.Ordering.{eq_by_cmp, int_cmp, int_eq}
use Rattle.std.specs.BTreeMap.{BTreeMap, get}
use Rattle.std.proofs.lemmas.Bool.Decides.{nat_tests}
use Rattle.fol_model.specs.declared.places.ChunkPos.{ChunkPos}
use Rattle.fol_model.specs.Geometry.{same_chunk}
use Rattle.fol_map.specs.Counts.{AreCounted, by_place, count_in}
use Rattle.fol_map.specs.Layouts.{AreHeld, IsAxis, cell, width}
use Rattle.fol_map.proofs.Chunks.{any_same, int_test, place_test, places_sorted}

pub cell_short : (xs : List ℤ) (x : ℤ) → length xs < 2 → cell xs x ≡ 0
cell_short [] x h = refl
cell_short (a ∷ []) x h = refl
cell_short (a ∷ b ∷ more) x h = absurd (omega arith)

pub width_short : (xs : List ℤ) → length xs < 2 → width xs ≡ length xs
width_short [] h = refl
width_short (a ∷ []) h = refl
width_short (a ∷ b ∷ more) h = absurd (omega arith)

-- the keys of a set of these numbers
pub axis_of : (used keys xs : List ℤ) → xs ≡ keys → IsStrictlySortedBy int_cmp keys → ((q : ℤ) → list_any (eq_by_cmp int_cmp q) keys ≡ list_any (eq_by_cmp int_cmp q) used) → IsAxis used xs
axis_of used keys xs e o h = rw e (record {
  order = o;
  same = λ x. sym (any_same (eq_by_cmp int_cmp x) (int_eq x) (int_test x) keys) ∙ h x ∙ any_same (eq_by_cmp int_cmp x) (int_eq x) (int_test x) used;
})

some_above : (o : Option ℕ) → IfSome o (λ n. 0 < n) → is_some o ≡ nat_lt 0 (unwrap_or o 0)
some_above None h = refl
some_above (Some n) h = grind (arith, nat_tests)

-- the keys of a map of counts
pub held_of : (m : BTreeMap ChunkPos ℕ) (count : ChunkPos → ℕ) (keys xs : List ChunkPos) → xs ≡ keys → IsStrictlySortedBy by_place keys → ((q : ChunkPos) → is_some (get by_place m q) ≡ list_any (eq_by_cmp by_place q) keys) → AreCounted m → ((c : ChunkPos) → count_in m c ≡ count c) → AreHeld count xs
held_of m count keys xs e o has all same = rw e (record {
  order = places_sorted keys o;
  same = λ c. sym (any_same (eq_by_cmp by_place c) (same_chunk c) (place_test c) keys) ∙ sym (has c) ∙ some_above (get by_place m c) (all c) ∙ ap (nat_lt 0) (same c);
})
