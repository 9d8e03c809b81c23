-- The sections of a square, row by row.
use Rattle.std.proofs.Common.{◌≡◌, ℕ, ◌+◌, ◌<◌, ◌≤◌, refl, ◌∙◌, ap, arith, Bool, true, false, cond, inl, inr, List, [], ◌∷◌, get_or}
use Rattle.std.specs.Prelude.{pos, neg_ℤ, ◌+ℤ◌, ◌-ℤ◌, map, flat_map}
use Rattle.std.specs.List.{AllByRecursion, IsDistinct, count_by, list_any}
use Rattle.std.specs.List.Sorted.{IsStrictlySortedBy}
use Rattle.std.specs.Ordering.{ordering_reverse}
use Rattle.std.specs.declared.cmp.Ordering.{Ordering}
use Rattle.std.specs.declared.cmp.Ordering.TheVariants.{Less}
use Rattle.std.proofs.lemmas.Map.Keys.{IsDistinct-from_apart, Less-from_sorted}
use Rattle.fol_laws.proofs.ListCounts.{count_by-cons}
use Rattle.std.proofs.lemmas.Bool.{cases_Bool}
use borrow.Author.Differences.{ints}
use Rattle.fol_model.specs.declared.places.SectionPos.{SectionPos}
use Rattle.fol_model.specs.Geometry.{is_within, same_section}
use Rattle.fol_model.specs.Universe.{from, section_cmp, square}
use Rattle.fol_laws.proofs.SamePlaces.{same_section-true}
use Rattle.fol_laws.proofs.SectionOrder.{sections_tell, square_members, square_sorted}
use Rattle.fol_sections.specs.Rows.{rows_of, section_at}

-- all rows of the square
pub rows-square : (s : SectionPos) (r n : ℕ) → n ≡ r + r + 1 → rows_of section_at (s.x -ℤ pos r) (s.z -ℤ pos r) n n ≡ square s r
unfolding rows_of square
rows-square s r n e =
    let x : s.x -ℤ pos r ≡ s.x +ℤ neg_ℤ (pos r) = omega (arith, ints) in
    let z : s.z -ℤ pos r ≡ s.z +ℤ neg_ℤ (pos r) = omega (arith, ints) in
    λ i. flat_map (λ b. map (λ a. section_at a b) (from (x i) (e i))) (from (z i) (e i))

not_less_self : (r : Ordering) → r ≡ ordering_reverse r → r ≡ Less → ⊥
not_less_self r e h = let k : Less ≡ ordering_reverse Less = rw h at e in cc

-- sections in order are distinct
pub rising_distinct : (xs : List SectionPos) → IsStrictlySortedBy section_cmp xs → IsDistinct same_section xs
rising_distinct xs h = IsDistinct-from_apart same_section xs (λ i j d l m. elim (cases_Bool (same_section (get_or xs i d) (get_or xs j d))) [
  | inr e ↦ e
  | inl e ↦
      let less = Less-from_sorted section_cmp xs i j d h l m in
      let k = same_section-true (get_or xs i d) (get_or xs j d) e in
      let own : section_cmp (get_or xs j d) (get_or xs j d) ≡ Less = rw k at less in
      absurd (not_less_self (section_cmp (get_or xs j d) (get_or xs j d)) (sections_tell.order.antisymm (get_or xs j d) (get_or xs j d)) own)
])

none_later : (x : SectionPos) (xs : List SectionPos) → AllByRecursion (λ y. same_section x y ≡ false) xs → count_by (same_section x) xs ≡ 0
none_later x [] h = refl
none_later x (y ∷ ys) h = omega (arith, count_by-cons (same_section x) y ys, ap (λ b. cond {A = ℕ} b 1 0) h.0, none_later x ys h.1)

once_in : (xs : List SectionPos) (q : SectionPos) → IsDistinct same_section xs → count_by (same_section q) xs ≡ cond (list_any (same_section q) xs) 1 0
unfolding IsDistinct
once_in [] q h = refl
once_in (x ∷ xs) q h = count_by-cons (same_section q) x xs ∙ elim (cases_Bool (same_section q x)) [
  | inl e ↦ let k = same_section-true q x e in let none = ap (λ p. count_by (same_section p) xs) k ∙ none_later x xs h.0 in rw (e, none) refl
  | inr e ↦ let rest = once_in xs q h.1 in rw e (omega (arith, rest))
]

-- each section of the square is there once
pub once : (s : SectionPos) (r : ℕ) (q : SectionPos) → count_by (same_section q) (square s r) ≡ cond (is_within s r q) 1 0
once s r q = once_in (square s r) q (rising_distinct (square s r) (square_sorted s r)) ∙ ap (λ b. cond b 1 0) (square_members s r q)

-- ---- one or none
pub one_most : (b : Bool) → cond b 1 0 ≤ 1
one_most true = omega arith
one_most false = omega arith

pub one_is : (b : Bool) → 0 < cond b 1 0 → b ≡ true
one_is true h = refl
one_is false h = absurd (omega arith)
