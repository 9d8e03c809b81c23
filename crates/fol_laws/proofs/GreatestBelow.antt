-- The greatest number of those that pass below a number.
use Rattle.std.proofs.Common.{◌≡◌, ℕ, zero, suc, ◌≤◌, ◌<◌, refl, arith, Bool, true, inl, inr}
use Rattle.std.proofs.lemmas.Bool.{cases_Bool, cases_eq}
use Rattle.fol_model.specs.Counting.{greatest_below}

pub greatest_none : (p : ℕ → Bool) (f : ℕ → ℕ) (n : ℕ) → ((k : ℕ) → p k ≡ true → f k ≡ 0) → greatest_below p f n ≡ 0
unfolding greatest_below
greatest_none p f zero h = refl
greatest_none p f (suc n) h = let i = greatest_none p f n h in elim (cases_Bool (p n)) [
  | inl e ↦ let z = h n e in rw (e, z, i) refl
  | inr e ↦ rw (e, i) refl
]

pub greatest-at_least : (p : ℕ → Bool) (f : ℕ → ℕ) (n k : ℕ) → k < n → p k ≡ true → f k ≤ greatest_below p f n
unfolding greatest_below
greatest-at_least p f zero k l h = absurd (omega arith)
greatest-at_least p f (suc n) k l h = elim (cases_eq k n) [
  | inl e ↦ let z : p n ≡ true = rw e at h in rw (z, e) (omega arith)
  | inr e ↦ omega (arith, greatest-at_least p f n k (omega arith) h)
]

pub greatest-at_most : (p : ℕ → Bool) (f : ℕ → ℕ) (n m : ℕ) → ((k : ℕ) → k < n → p k ≡ true → f k ≤ m) → greatest_below p f n ≤ m
unfolding greatest_below
greatest-at_most p f zero m h = omega arith
greatest-at_most p f (suc n) m h = let i = greatest-at_most p f n m (λ k l. h k (omega arith)) in elim (cases_Bool (p n)) [
  | inl e ↦ let z = h n (omega arith) e in rw e (omega arith)
  | inr e ↦ rw e (omega arith)
]
