-- The regions of the sections of a square, row by row.
use Rattle.std.proofs.Common.{◌≡◌, ℕ, zero, suc, ◌+◌, ◌<◌, refl, sym, ◌∙◌, ap, arith, Bool, true, false, ◌&&◌, ◌||◌, List, [], ◌∷◌, ◌++◌, inl, inr}
use Rattle.std.specs.Prelude.{ℤ, pos, neg_ℤ, ◌+ℤ◌, ◌-ℤ◌, map, flat_map, nat_eq, nat_lt}
use Rattle.std.specs.List.{list_any, filter}
use Rattle.std.proofs.Math.Bool.{and-false, or-false}
use Rattle.std.proofs.lemmas.List.{map-append}
use Rattle.std.proofs.lemmas.Grind.{flat_map-append}
use Rattle.std.proofs.lemmas.List.Concat.{flat_map-cons}
use borrow.Author.Differences.{ints}
use Rattle.fol_model.specs.declared.places.SectionPos.{SectionPos}
use Rattle.std.proofs.lemmas.Bool.{cases_Bool, cases_eq, and_parts, and_from, or_cases, or_left, or_right, true≢false, eq-eqb, eqb-true, ne_eqb, lt-ltb, ltb-true}
use Rattle.std.proofs.lemmas.List.Folds.{list_any-append}
use Rattle.fol_model.specs.Geometry.{is_section, is_within, same_section}
use Rattle.fol_model.specs.Universe.{from, square, numbers_below}
use Rattle.fol_laws.proofs.AllSections.{some_section-is, some_section-gives}
use Rattle.fol_laws.proofs.SamePlaces.{same_section-true, same_section-self}
use Rattle.fol_laws.proofs.SectionOrder.{square_members}
use Rattle.fol_laws.proofs.Tests.{same_answer}
use Rattle.fol_region_tables.proofs.Chosen.{chosen_below, filter_like, with_chosen}
use Rattle.fol_regions.specs.Near.{has_one, is_close, noted, regions_of, row_of, rows_of}

from-more : (x : ℤ) (n : ℕ) → from x (n + 1) ≡ from x n ++ (x +ℤ pos n) ∷ []
unfolding from
from-more x zero = let e : x ≡ x +ℤ pos 0 = omega (arith, ints) in λ i. e i ∷ []
from-more x (suc n) =
    let rest = from-more (x +ℤ pos 1) n in
    let e : (x +ℤ pos 1) +ℤ pos n ≡ x +ℤ pos (suc n) = omega (arith, ints) in
    let m : suc n + 1 ≡ suc (n + 1) = omega arith in
    ap (from x) m ∙ ap (λ xs. x ∷ xs) (rest ∙ ap (λ y. from (x +ℤ pos 1) n ++ y ∷ []) e)

pub row-none : (first : SectionPos) (row : ℕ) → row_of first row 0 ≡ []
unfolding row_of from
row-none first row = refl

pub row-more : (first : SectionPos) (row n : ℕ) → row_of first row (n + 1) ≡ row_of first row n ++ record { x = first.x +ℤ pos n; z = first.z +ℤ pos row } ∷ []
unfolding row_of
row-more first row n = ap (map (λ x. record { x = x; z = first.z +ℤ pos row })) (from-more first.x n)
    ∙ map-append (λ x. record { x = x; z = first.z +ℤ pos row }) (from first.x n) ((first.x +ℤ pos n) ∷ [])

pub rows-none : (first : SectionPos) (n : ℕ) → rows_of first 0 n ≡ []
unfolding rows_of from
rows-none first n = refl

pub append-none : (xs : List SectionPos) → xs ++ [] ≡ xs
append-none [] = refl
append-none (x ∷ xs) = λ i. x ∷ append-none xs i

pub rows-more : (first : SectionPos) (rows n : ℕ) → rows_of first (rows + 1) n ≡ rows_of first rows n ++ row_of first rows n
unfolding rows_of row_of
rows-more first rows n =
    let f : ℤ → List SectionPos = λ z. map (λ x. record { x = x; z = z }) (from first.x n) in
    ap (flat_map f) (from-more first.z rows)
    ∙ flat_map-append f (from first.z rows) ((first.z +ℤ pos rows) ∷ [])
    ∙ ap (λ xs. flat_map f (from first.z rows) ++ xs) (flat_map-cons f (first.z +ℤ pos rows) [] ∙ append-none (f (first.z +ℤ pos rows)))

-- all rows of the square
pub rows-square : (s : SectionPos) (r n : ℕ) → n ≡ r + r + 1 → rows_of (record { x = s.x -ℤ pos r; z = s.z -ℤ pos r }) n n ≡ square s r
unfolding rows_of square
rows-square s r n e =
    let x : s.x -ℤ pos r ≡ s.x +ℤ neg_ℤ (pos r) = omega (arith, ints) in
    let z : s.z -ℤ pos r ≡ s.z +ℤ neg_ℤ (pos r) = omega (arith, ints) in
    λ i. flat_map (λ b. map (λ a. record { x = a; z = b }) (from (x i) (e i))) (from (z i) (e i))

-- ---- the regions of some sections
module _ (owner : SectionPos → ℕ) (next : ℕ) (below : (s : SectionPos) → 0 < owner s → owner s < next) where
  some_owner : (xs : List SectionPos) (r : ℕ) → has_one owner xs r ≡ true → r < next
  some_owner [] r h = absurd (true≢false (sym (and_parts (nat_lt 0 r) false h).1))
  some_owner (x ∷ xs) r h =
      let p = and_parts (nat_lt 0 r) (list_any (λ s. nat_eq (owner s) r) (x ∷ xs)) h in
      elim (or_cases (nat_eq (owner x) r) (list_any (λ s. nat_eq (owner s) r) xs) p.1) [
        | inl e ↦ let f = eqb-true (owner x) r e in let l = ltb-true 0 r p.0 in omega (arith, below x (omega arith))
        | inr e ↦ some_owner xs r (and_from (nat_lt 0 r) (list_any (λ s. nat_eq (owner s) r) xs) p.0 e)
      ]

  -- one section more
  pub regions_more : (xs : List SectionPos) (s : SectionPos) → noted (owner s) (regions_of owner next xs) ≡ regions_of owner next (xs ++ s ∷ [])
  unfolding regions_of
  regions_more xs s = elim (cases_eq (owner s) 0) [
    | inl e ↦ let t : nat_eq (owner s) 0 ≡ true = eq-eqb (owner s) 0 e in rw t (filter_like _ _ (λ r. sym (one r ∙ none r e)) (numbers_below next))
    | inr n ↦ let t : nat_eq (owner s) 0 ≡ false = ne_eqb (owner s) 0 n in
        let has = chosen_below (has_one owner xs) next (some_owner xs) (owner s) in
        elim (cases_Bool (has_one owner xs (owner s))) [
          | inl e ↦ let f = has ∙ e in rw (t, f) (filter_like _ _ (λ r. sym (one r ∙ there r e)) (numbers_below next))
          | inr e ↦ let f = has ∙ e in rw (t, f) (with_chosen (has_one owner xs) next (owner s) (below s (omega arith)) (some_owner xs) ∙ filter_like _ _ (λ r. sym (one r ∙ here r n)) (numbers_below next))
        ]
  ]
    where
      any : ℕ → Bool
      any r = list_any (λ q. nat_eq (owner q) r) xs

      one : (r : ℕ) → has_one owner (xs ++ s ∷ []) r ≡ (nat_lt 0 r && (list_any (λ q. nat_eq (owner q) r) xs || nat_eq (owner s) r))
      one r = ap (λ b. nat_lt 0 r && b) (list_any-append (λ q. nat_eq (owner q) r) xs (s ∷ []) ∙ ap (λ b. list_any (λ q. nat_eq (owner q) r) xs || b) (or-false (nat_eq (owner s) r)))

      none : (r : ℕ) → owner s ≡ 0 → (nat_lt 0 r && (list_any (λ q. nat_eq (owner q) r) xs || nat_eq (owner s) r)) ≡ has_one owner xs r
      none r e = elim (cases_Bool (nat_lt 0 r)) [
        | inl l ↦ let f : nat_eq (owner s) r ≡ false = ne_eqb (owner s) r (λ x. absurd (omega (arith, ltb-true 0 r l))) in rw (l, f) (or-false (list_any (λ q. nat_eq (owner q) r) xs))
        | inr l ↦ rw l refl
      ]

      there : (r : ℕ) → has_one owner xs (owner s) ≡ true → (nat_lt 0 r && (list_any (λ q. nat_eq (owner q) r) xs || nat_eq (owner s) r)) ≡ has_one owner xs r
      there r e = elim (cases_eq (owner s) r) [
        | inl x ↦ let y : has_one owner xs r ≡ true = ap (has_one owner xs) (sym x) ∙ e in let p = and_parts (nat_lt 0 r) (list_any (λ q. nat_eq (owner q) r) xs) y in let a = p.0 in let b = p.1 in rw (a, b) refl
        | inr x ↦ let f : nat_eq (owner s) r ≡ false = ne_eqb (owner s) r x in rw f (ap (λ b. nat_lt 0 r && b) (or-false (list_any (λ q. nat_eq (owner q) r) xs)))
      ]

      or_swap : (a b : Bool) → (a || b) ≡ (b || a)
      or_swap true true = refl
      or_swap true false = refl
      or_swap false true = refl
      or_swap false false = refl

      here : (r : ℕ) → (owner s ≡ 0 → ⊥) → (nat_lt 0 r && (list_any (λ q. nat_eq (owner q) r) xs || nat_eq (owner s) r)) ≡ (nat_eq (owner s) r || has_one owner xs r)
      here r n = elim (cases_eq (owner s) r) [
        | inl x ↦ let f : nat_eq (owner s) r ≡ true = eq-eqb (owner s) r x in let l : nat_lt 0 r ≡ true = lt-ltb 0 r (omega arith) in rw (f, l) (or_swap (list_any (λ q. nat_eq (owner q) r) xs) true)
        | inr x ↦ let f : nat_eq (owner s) r ≡ false = ne_eqb (owner s) r x in rw f (ap (λ b. nat_lt 0 r && b) (or-false (list_any (λ q. nat_eq (owner q) r) xs)))
      ]

  -- all sections of the square
  pub regions_square : ((s : SectionPos) → 0 < owner s → is_section s ≡ true) → (home : SectionPos) (reach r : ℕ) → has_one owner (square home reach) r ≡ is_close owner home reach r
  regions_square limits home reach r = elim (cases_Bool (nat_lt 0 r)) [
    | inr e ↦ rw e refl
    | inl e ↦ rw e (same_answer _ _ (λ h.
        let x = gives (λ s. nat_eq (owner s) r) (square home reach) h in
        let o = eqb-true (owner x.0) r x.2 in
        some_section-is (λ s. nat_eq (owner s) r && is_within home reach s) x.0 (limits x.0 (omega (arith, ltb-true 0 r e))) (and_from (nat_eq (owner x.0) r) (is_within home reach x.0) x.2 (sym (square_members home reach x.0) ∙ x.1)))
        (λ h.
        let x = some_section-gives (λ s. nat_eq (owner s) r && is_within home reach s) h in
        let p = and_parts (nat_eq (owner x.0) r) (is_within home reach x.0) x.2 in
        takes (λ s. nat_eq (owner s) r) x.0 p.0 (square home reach) (square_members home reach x.0 ∙ p.1)))
  ]
    where
      gives : (p : SectionPos → Bool) (xs : List SectionPos) → list_any p xs ≡ true → (s : SectionPos) × (list_any (same_section s) xs ≡ true) × (p s ≡ true)
      gives p [] h = absurd (true≢false (sym h))
      gives p (x ∷ xs) h = elim (or_cases (p x) (list_any p xs) h) [
        | inl e ↦ (x, or_left (same_section x x) (list_any (same_section x) xs) (same_section-self x), e)
        | inr e ↦ let y = gives p xs e in (y.0, or_right (same_section y.0 x) (list_any (same_section y.0) xs) y.1, y.2)
      ]

      takes : (p : SectionPos → Bool) (s : SectionPos) → p s ≡ true → (xs : List SectionPos) → list_any (same_section s) xs ≡ true → list_any p xs ≡ true
      takes p s h [] k = absurd (true≢false (sym k))
      takes p s h (x ∷ xs) k = elim (or_cases (same_section s x) (list_any (same_section s) xs) k) [
        | inl e ↦ or_left (p x) (list_any p xs) (ap p (sym (same_section-true s x e)) ∙ h)
        | inr e ↦ or_right (p x) (list_any p xs) (takes p s h xs e)
      ]

pub regions_none : (owner : SectionPos → ℕ) (next : ℕ) → regions_of owner next [] ≡ []
unfolding regions_of
regions_none owner next = go (numbers_below next)
  where
    go : (ns : List ℕ) → filter (λ r. nat_lt 0 r && false) ns ≡ []
    go [] = refl
    go (n ∷ ns) = let e = and-false (nat_lt 0 n) in rw e (go ns)

-- the region of one section
pub regions_one : (owner : SectionPos → ℕ) (next : ℕ) → ((s : SectionPos) → 0 < owner s → owner s < next) → (s : SectionPos) → noted (owner s) [] ≡ regions_of owner next (s ∷ [])
regions_one owner next below s = ap (noted (owner s)) (sym (regions_none owner next)) ∙ regions_more owner next below [] s
