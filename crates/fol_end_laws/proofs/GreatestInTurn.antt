-- The greatest number, found region by region.
use Rattle.std.proofs.Common.{◌≡◌, ℕ, zero, suc, ◌≤◌, ◌<◌, refl, ap, arith, Bool, true, false, not, ◌&&◌, inl, inr, List, [], ◌∷◌, ◌++◌}
use Rattle.std.specs.Prelude.{nat_eq, max, filter}
use Rattle.std.proofs.lemmas.List.{append-nil}
use Rattle.std.proofs.lemmas.List.Elements.{filter-append}
use Rattle.std.proofs.lemmas.Bool.{cases_Bool, cases_eq, and_parts, ne_eqb}
use Rattle.fol_model.specs.Counting.{greatest_below}
use Rattle.fol_model.specs.Universe.{numbers_below}
use Rattle.fol_laws.proofs.GreatestBelow.{greatest-at_least, greatest-at_most}
use Rattle.fol_end_laws.specs.OwedMost.{greatest_of}

last_of : (f : ℕ → ℕ) (m : ℕ) (xs : List ℕ) (y : ℕ) → greatest_of f m (xs ++ y ∷ []) ≡ max (greatest_of f m xs) (f y)
last_of f m [] y = refl
last_of f m (x ∷ xs) y = last_of f (max m (f x)) xs y

pub of_listed : (p : ℕ → Bool) (f : ℕ → ℕ) (m n : ℕ) → greatest_of f m (filter p (numbers_below n)) ≡ max m (greatest_below p f n)
unfolding numbers_below greatest_below
of_listed p f m zero = omega arith
of_listed p f m (suc n) =
    let i = of_listed p f m n in
    let a = filter-append p (numbers_below n) (n ∷ []) in
    elim (cases_Bool (p n)) [
      | inl e ↦ let b : filter p (numbers_below n ++ n ∷ []) ≡ filter p (numbers_below n) ++ n ∷ [] = rw e at a in let c = last_of f m (filter p (numbers_below n)) n in rw (b, e) (omega arith)
      | inr e ↦ let b : filter p (numbers_below n ++ n ∷ []) ≡ filter p (numbers_below n) = rw (e, append-nil (filter p (numbers_below n))) at a in rw (b, e) (omega arith)
    ]

pub in_turn : (p : ℕ → Bool) (f : ℕ → ℕ) (n t : ℕ) → t < n → p t ≡ true
    → greatest_of f (f t) (filter (λ r. p r && not (nat_eq t r)) (numbers_below n)) ≡ greatest_below p f n
in_turn p f n t l h =
    let q : ℕ → Bool = λ r. p r && not (nat_eq t r) in
    let a = of_listed q f (f t) n in
    let low = greatest-at_least p f n t l h in
    let most : greatest_below q f n ≤ greatest_below p f n = greatest-at_most q f n _ (λ k s e. greatest-at_least p f n k s (and_parts (p k) (not (nat_eq t k)) e).0) in
    let all : greatest_below p f n ≤ max (f t) (greatest_below q f n) = greatest-at_most p f n _ (λ k s e. elim (cases_eq t k) [
      | inl x ↦ let y : f t ≡ f k = ap f x in omega arith
      | inr x ↦ let z : nat_eq t k ≡ false = ne_eqb _ _ x in let b : q k ≡ true = rw (e, z) refl in let c = greatest-at_least q f n k s b in omega arith
    ]) in
    omega arith
