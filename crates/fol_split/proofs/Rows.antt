-- The sections of a run.
use Rattle.std.proofs.Common.{◌≡◌, ℕ, zero, suc, refl, sym, ◌∙◌, ap, arith, true, inl, inr, List, [], ◌∷◌, ◌++◌, length, append_assoc}
use Rattle.std.specs.Prelude.{ℤ, pos, ◌+ℤ◌, ◌-ℤ◌, ◌<ℤ◌, ◌≤ℤ◌, nat_abs, map}
use Rattle.std.specs.List.Sorted.{IsStrictlySortedBy}
use Rattle.std.specs.Ordering.{int_eq}
use Rattle.std.specs.declared.cmp.Ordering.TheVariants.{Less}
use Rattle.std.proofs.lemmas.Bool.{cases_Bool, or_cases, or_left, or_right, and_from, true≢false}
use Rattle.std.proofs.lemmas.Bool.Decides.{Decides-int_eq}
use Rattle.std.proofs.lemmas.List.{append-nil}
use borrow.Author.Differences.{ints}
use Rattle.fol_model.specs.declared.places.SectionPos.{SectionPos}
use Rattle.fol_model.specs.Geometry.{same_section, is_among}
use Rattle.fol_model.specs.Universe.{from, section_cmp}
use Rattle.fol_model.proofs.PlaceKeys.{same_section-true}
use Rattle.fol_split.specs.declared.runs.Run.{Run}
use Rattle.fol_split.specs.Runs.{sections_of, first_of}
use Rattle.fol_split.proofs.Places.{less_in_row}
use Rattle.fol_split.proofs.Members.{all_from}

-- n sections of the row z, from x on
abbrev pub row : ℤ → ℤ → ℕ → List SectionPos
row z x n = map (λ y. record { x = y; z = z }) (from x n)

row-gives : (z x : ℤ) (n : ℕ) (s : SectionPos) → is_among (row z x n) s ≡ true → (s.z ≡ z) × (x ≤ℤ s.x) × (s.x <ℤ (x +ℤ pos n))
unfolding from
row-gives z x zero s h = absurd (true≢false (sym h))
row-gives z x (suc n) s h = elim (or_cases (same_section s (record { x = x; z = z })) (is_among (row z (x +ℤ pos 1) n) s) h) [
  | inl e ↦ let q = same_section-true s (record { x = x; z = z }) e in
      let at : s.x ≡ x = ap (λ t. t.x) q in
      (ap (λ t. t.z) q, omega (arith, ints, at), omega (arith, ints, at))
  | inr e ↦ let r = row-gives z (x +ℤ pos 1) n s e in (r.0, omega (arith, ints, r.1), omega (arith, ints, r.2))
]

row-from : (z x : ℤ) (n : ℕ) (s : SectionPos) → s.z ≡ z → x ≤ℤ s.x → s.x <ℤ (x +ℤ pos n) → is_among (row z x n) s ≡ true
unfolding from same_section
row-from z x zero s e l h = absurd (omega (arith, ints, l, h))
row-from z x (suc n) s e l h = elim (cases_Bool (int_eq s.x x)) [
  | inl k ↦ or_left _ _ (and_from _ _ k ((Decides-int_eq s.z z).1 e))
  | inr k ↦
      let other : s.x ≡ x → ⊥ = λ q. true≢false (sym ((Decides-int_eq s.x x).1 q) ∙ k) in
      or_right (same_section s (record { x = x; z = z })) _ (row-from z (x +ℤ pos 1) n s e (omega (arith, ints, l, other)) (omega (arith, ints, h)))
]

pub length-row : (z x : ℤ) (n : ℕ) → length (row z x n) ≡ n
unfolding from
length-row z x zero = refl
length-row z x (suc n) = ap suc (length-row z (x +ℤ pos 1) n)

pub row-push : (z x : ℤ) (n : ℕ) (y : ℤ) → y ≡ x +ℤ pos n → row z x (suc n) ≡ row z x n ++ record { x = y; z = z } ∷ []
unfolding from
row-push z x zero y e = let at : x ≡ y = omega (arith, ints, e) in λ i. record { x = at i; z = z } ∷ []
row-push z x (suc n) y e = let rest = row-push z (x +ℤ pos 1) n y (omega (arith, ints, e)) in λ i. record { x = x; z = z } ∷ rest i

-- ---- a row that grows at its end
pub row-start : (xs : List SectionPos) (z x y : ℤ) → y ≡ x → xs ≡ xs ++ row z x (nat_abs (y -ℤ x))
unfolding from
row-start xs z x y e = let n : nat_abs (y -ℤ x) ≡ 0 = omega (arith, ints, e) in rw n (sym (append-nil xs))

pub row-step : (xs now : List SectionPos) (z x y next : ℤ) (s : SectionPos) → now ≡ xs ++ row z x (nat_abs (y -ℤ x)) → x ≤ℤ y → s ≡ record { x = y; z = z } → next ≡ y +ℤ pos 1
    → now ++ s ∷ [] ≡ xs ++ row z x (nat_abs (next -ℤ x))
row-step xs now z x y next s h l e f =
    let n : nat_abs (next -ℤ x) ≡ suc (nat_abs (y -ℤ x)) = omega (arith, ints, l, f) in
    ap (λ zs. zs ++ s ∷ []) h ∙ append_assoc xs (row z x (nat_abs (y -ℤ x))) (s ∷ [])
    ∙ ap (λ zs. xs ++ zs) (ap (λ t. row z x (nat_abs (y -ℤ x)) ++ t ∷ []) e ∙ sym (row-push z x (nat_abs (y -ℤ x)) y (omega (arith, ints, l))) ∙ ap (row z x) (sym n))

pub row-whole : (run : Run) (y : ℤ) → y ≡ run.to → row run.z run.from (nat_abs (y -ℤ run.from)) ≡ sections_of run
unfolding sections_of
row-whole run y e = ap (λ t. row run.z run.from (nat_abs (t -ℤ run.from))) e

pub length-run : (run : Run) → length (sections_of run) ≡ nat_abs (run.to -ℤ run.from)
unfolding sections_of
length-run run = length-row run.z run.from (nat_abs (run.to -ℤ run.from))

module _ (run : Run) (solid : run.from <ℤ run.to) where
  pub in_run-gives : (s : SectionPos) → is_among (sections_of run) s ≡ true → (s.z ≡ run.z) × (run.from ≤ℤ s.x) × (s.x <ℤ run.to)
  unfolding sections_of
  in_run-gives s h = let r = row-gives run.z run.from (nat_abs (run.to -ℤ run.from)) s h in (r.0, r.1, omega (arith, ints, r.2))

  pub in_run-from : (s : SectionPos) → s.z ≡ run.z → run.from ≤ℤ s.x → s.x <ℤ run.to → is_among (sections_of run) s ≡ true
  unfolding sections_of
  in_run-from s e l h = row-from run.z run.from (nat_abs (run.to -ℤ run.from)) s e l (omega (arith, ints))

  pub first_in : is_among (sections_of run) (first_of run) ≡ true
  first_in = in_run-from (first_of run) refl (omega (arith, ints)) solid

  -- one section more behind it
  pub wider : (s : SectionPos) → s.z ≡ run.z → s.x ≡ run.to → sections_of (record { z = run.z; from = run.from; to = s.x +ℤ pos 1 }) ≡ sections_of run ++ s ∷ []
  unfolding sections_of
  wider s e f =
      let n : nat_abs ((s.x +ℤ pos 1) -ℤ run.from) ≡ suc (nat_abs (run.to -ℤ run.from)) = omega (arith, ints) in
      let last : s ≡ record { x = s.x; z = run.z } = λ i. record { x = s.x; z = e i } in
      ap (row run.z run.from) n ∙ row-push run.z run.from (nat_abs (run.to -ℤ run.from)) s.x (omega (arith, ints))
      ∙ ap (λ t. row run.z run.from (nat_abs (run.to -ℤ run.from)) ++ t ∷ []) (sym last)

row-rises : (z x : ℤ) (n : ℕ) → IsStrictlySortedBy section_cmp (row z x n)
unfolding from IsStrictlySortedBy
row-rises z x zero = tt
row-rises z x (suc n) = (
  all_from (λ t. section_cmp (record { x = x; z = z }) t ≡ Less) (row z (x +ℤ pos 1) n) (λ t h. let r = row-gives z (x +ℤ pos 1) n t h in less_in_row (record { x = x; z = z }) t (sym r.0) (omega (arith, ints, r.1))),
  row-rises z (x +ℤ pos 1) n,
)

pub run-rises : (run : Run) → IsStrictlySortedBy section_cmp (sections_of run)
unfolding sections_of
run-rises run = row-rises run.z run.from (nat_abs (run.to -ℤ run.from))

-- a run of one section
pub single : (s : SectionPos) → sections_of (record { z = s.z; from = s.x; to = s.x +ℤ pos 1 }) ≡ s ∷ []
unfolding sections_of from
single s = let n : nat_abs ((s.x +ℤ pos 1) -ℤ s.x) ≡ 1 = omega (arith, ints) in ap (row s.z s.x) n
