-- The first number that passes, in a list of the numbers below a number.
use Rattle.std.proofs.Common.{◌≡◌, ℕ, zero, suc, refl, sym, ◌∙◌, ap, arith, Bool, true, false, inl, inr, List, [], ◌∷◌, ◌++◌}
use Rattle.std.specs.Prelude.{nat_eq, filter, if◌then◌else◌, Option, Some, None}
use Rattle.std.specs.Option.{option_or}
use Rattle.std.specs.List.{AllByRecursion, find, list_any}
use Rattle.std.proofs.lemmas.Bool.{cases_Bool, eqb-true, or_cases, or_left, or_right, true≢false}
use Rattle.std.proofs.lemmas.List.Elements.{filter-append}
use Rattle.std.proofs.lemmas.List.Folds.{find-append}
use Rattle.fol_model.specs.Counting.{some_below, least}
use Rattle.fol_model.specs.Universe.{numbers_below}
use Rattle.fol_laws.proofs.NumbersBelow.{some_below-gives}

abbrev pub first_below : (ℕ → Bool) → ℕ → Option ℕ
first_below p n = if some_below p n then Some (least p n) else None

last_one : (p q : ℕ → Bool) → ((k : ℕ) → p k ≡ true → q k ≡ true) → (n : ℕ) → find p (filter q (n ∷ [])) ≡ (if p n then Some n else None)
last_one p q h n = elim (cases_Bool (p n)) [
  | inl e ↦ let k = h n e in rw (k, e) refl
  | inr e ↦ elim (cases_Bool (q n)) [ inl k ↦ rw (k, e) refl | inr k ↦ rw (k, e) refl ]
]

first_more : (p : ℕ → Bool) (n : ℕ) → option_or (first_below p n) (if p n then Some n else None) ≡ first_below p (suc n)
unfolding some_below least
first_more p n = elim (cases_Bool (some_below p n)) [
  | inl e ↦ let s : some_below p (suc n) ≡ true = or_right (p n) (some_below p n) e in elim (cases_Bool (p n)) [ inl k ↦ rw (e, k) refl | inr k ↦ rw (e, k) refl ]
  | inr e ↦ elim (cases_Bool (p n)) [ inl k ↦ rw (e, k) refl | inr k ↦ rw (e, k) refl ]
]

pub first_found : (p q : ℕ → Bool) → ((k : ℕ) → p k ≡ true → q k ≡ true) → (n : ℕ) → find p (filter q (numbers_below n)) ≡ first_below p n
unfolding numbers_below some_below
first_found p q h zero = refl
first_found p q h (suc n) =
    ap (λ xs. find p xs) (filter-append q (numbers_below n) (n ∷ []))
    ∙ find-append p (filter q (numbers_below n)) (filter q (n ∷ []))
    ∙ ap (λ o. option_or (find p (filter q (numbers_below n))) o) (last_one p q h n)
    ∙ ap (λ o. option_or o (if p n then Some n else None)) (first_found p q h n)
    ∙ first_more p n

pub first_some : (p : ℕ → Bool) (n r : ℕ) → first_below p n ≡ Some r → (some_below p n ≡ true) × (r ≡ least p n)
first_some p n r h = elim (cases_Bool (some_below p n)) [
  | inl e ↦ let f : Some (least p n) ≡ Some r = rw e at h in (e, let s : least p n ≡ r = cc in sym s)
  | inr e ↦ let f : None ≡ Some r = rw e at h in absurd (cc)
]

pub first_none : (p : ℕ → Bool) (n : ℕ) → first_below p n ≡ None → some_below p n ≡ false
first_none p n h = elim (cases_Bool (some_below p n)) [
  | inl e ↦ let f : Some (least p n) ≡ None = rw e at h in absurd (cc)
  | inr e ↦ e
]

-- where at most one number passes, what the test keeps is that one
abbrev pub only_below : (ℕ → Bool) → ℕ → List ℕ
only_below p n = if some_below p n then least p n ∷ [] else []

pub only_kept : (p : ℕ → Bool) → ((a b : ℕ) → p a ≡ true → p b ≡ true → a ≡ b) → (n : ℕ) → filter p (numbers_below n) ≡ only_below p n
unfolding numbers_below some_below least
only_kept p one zero = refl
only_kept p one (suc n) = filter-append p (numbers_below n) (n ∷ []) ∙ ap (λ xs. xs ++ filter p (n ∷ [])) (only_kept p one n) ∙ elim (cases_Bool (some_below p n)) [
  | inl e ↦ let k = some_below-gives p n e in
      let z : p n ≡ false = elim (cases_Bool (p n)) [ inl y ↦ absurd (let s : k.0 ≡ n = one k.0 n k.2 y in omega (arith, k.1, s)) | inr y ↦ y ] in
      rw (e, z) refl
  | inr e ↦ elim (cases_Bool (p n)) [ inl k ↦ rw (e, k) refl | inr k ↦ rw (e, k) refl ]
]

-- a number of the list that passes is kept
pub kept_number : (q : ℕ → Bool) (k : ℕ) (xs : List ℕ) → q k ≡ true → list_any (nat_eq k) xs ≡ true → list_any (nat_eq k) (filter q xs) ≡ true
kept_number q k [] h m = m
kept_number q k (x ∷ xs) h m = elim (or_cases (nat_eq k x) (list_any (nat_eq k) xs) m) [
  | inl e ↦ let s : k ≡ x = eqb-true k x e in let t : q x ≡ true = ap q (sym s) ∙ h in rw t (or_left (nat_eq k x) _ e)
  | inr e ↦ elim (cases_Bool (q x)) [
    | inl t ↦ rw t (or_right (nat_eq k x) _ (kept_number q k xs h e))
    | inr t ↦ rw t (kept_number q k xs h e)
  ]
]

pub holds_of : (P : ℕ → Type 0) (k : ℕ) (xs : List ℕ) → AllByRecursion P xs → list_any (nat_eq k) xs ≡ true → P k
holds_of P k [] h m = absurd (true≢false (sym m))
holds_of P k (x ∷ xs) h m = elim (or_cases (nat_eq k x) (list_any (nat_eq k) xs) m) [
  | inl e ↦ let s : k ≡ x = eqb-true k x e in rw s h.0
  | inr e ↦ holds_of P k xs h.1 e
]
