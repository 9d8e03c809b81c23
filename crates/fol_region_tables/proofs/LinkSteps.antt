-- Lists of ids: what is below an id, above it, and other than it.
use Rattle.std.proofs.Common.{◌≡◌, ℕ, ◌+◌, ◌≤◌, ◌<◌, refl, ◌∙◌, ap, arith, Bool, true, false, cond, List, [], ◌∷◌, ◌++◌, length, take, drop, get_or, length-append, inl, inr}
use Rattle.std.specs.Prelude.{filter, nat_lt}
use Rattle.std.proofs.lemmas.List.{take-append-drop}
use Rattle.std.proofs.lemmas.List.Elements.{filter-append, filter_more}
use Rattle.std.proofs.lemmas.Bool.{cases_Bool, ltb-true, le-ltb}

pub append-none : (xs : List ℕ) → xs ++ [] ≡ xs
append-none [] = refl
append-none (x ∷ xs) = λ i. x ∷ append-none xs i

module _ (p : ℕ → Bool) where
  pub filter_le : (xs : List ℕ) → length (filter p xs) ≤ length xs
  filter_le [] = omega arith
  filter_le (x ∷ xs) = elim (cases_Bool (p x)) [
    | inl e ↦ rw e (omega (arith, filter_le xs))
    | inr e ↦ rw e (omega (arith, filter_le xs))
  ]

  pub filter_take_le : (xs : List ℕ) (j : ℕ) → length (filter p (take j xs)) ≤ length (filter p xs)
  filter_take_le xs j = omega (arith, ap (λ ys. length (filter p ys)) (take-append-drop j xs), ap length (filter-append p (take j xs) (drop j xs)), length-append (filter p (take j xs)) (filter p (drop j xs)))

  pub filter_yes : (xs : List ℕ) (i d : ℕ) → i < length xs → p (get_or xs i d) ≡ true → filter p (take (i + 1) xs) ≡ filter p (take i xs) ++ get_or xs i d ∷ []
  filter_yes xs i d l h = filter_more p xs i d l ∙ ap (λ b. filter p (take i xs) ++ cond b (get_or xs i d ∷ []) []) h

  pub filter_no : (xs : List ℕ) (i d : ℕ) → i < length xs → p (get_or xs i d) ≡ false → filter p (take (i + 1) xs) ≡ filter p (take i xs)
  filter_no xs i d l h = filter_more p xs i d l ∙ ap (λ b. filter p (take i xs) ++ cond b (get_or xs i d ∷ []) []) h ∙ append-none (filter p (take i xs))

-- nothing is below and above
pub two_sides : (id : ℕ) (xs : List ℕ) → length (filter (λ k. nat_lt k id) xs) + length (filter (λ k. nat_lt id k) xs) ≤ length xs
two_sides id [] = omega arith
two_sides id (x ∷ xs) = elim (cases_Bool (nat_lt x id)) [
  | inl e ↦ let l : x < id = ltb-true x id e in let f : nat_lt id x ≡ false = le-ltb id x (omega arith) in rw (e, f) (omega (arith, two_sides id xs))
  | inr e ↦ elim (cases_Bool (nat_lt id x)) [
    | inl f ↦ rw (e, f) (omega (arith, two_sides id xs))
    | inr f ↦ rw (e, f) (omega (arith, two_sides id xs))
  ]
]
