-- Facts on tests of the numbers below a bound.
use Rattle.std.proofs.Common.{◌≡◌, ℕ, zero, suc, ◌≤◌, ◌<◌, sym, ◌∙◌, arith, Bool, true, inl, inr, ◌&&◌}
use Rattle.std.specs.Prelude.{leb}
use Rattle.std.proofs.lemmas.Bool.{cases_Bool, cases_eq, or_cases, or_left, or_right, true≢false, and_parts, and_cases, leb-true, leb-false}
use Rattle.fol_model.specs.Counting.{some_below, least}

pub some_below-is : (p : ℕ → Bool) (n k : ℕ) → k < n → p k ≡ true → some_below p n ≡ true
unfolding some_below
some_below-is p zero k l h = absurd (omega arith)
some_below-is p (suc n) k l h = elim (cases_eq k n) [
  | inl e ↦ or_left (p n) _ (rw e at h)
  | inr e ↦ or_right (p n) _ (some_below-is p n k (omega arith) h)
]

pub some_below-gives : (p : ℕ → Bool) (n : ℕ) → some_below p n ≡ true → (k : ℕ) × (k < n) × (p k ≡ true)
unfolding some_below
some_below-gives p zero h = absurd (true≢false (sym h))
some_below-gives p (suc n) h = elim (or_cases (p n) _ h) [
  | inl e ↦ (n, omega arith, e)
  | inr e ↦ let k = some_below-gives p n e in (k.0, omega (arith, k.1), k.2)
]

pub least-le : (p : ℕ → Bool) (n : ℕ) → least p n ≤ n
unfolding least
least-le p zero = omega arith
least-le p (suc n) = grind (arith, least-le p n)

pub least-below : (p : ℕ → Bool) (n k : ℕ) → k < n → p k ≡ true → least p n ≤ k
unfolding least
least-below p zero k l h = absurd (omega arith)
least-below p (suc n) k l h = elim (cases_eq k n) [
  | inl e ↦ let at : p n ≡ true = rw e at h in grind (arith, least-le p n, at)
  | inr e ↦ let m : k < n = omega arith in grind (arith, some_below-is p n k m h, least-below p n k m h)
]

pub least-passes : (p : ℕ → Bool) (n : ℕ) → least p n < n → p (least p n) ≡ true
unfolding least
least-passes p zero h = absurd (omega arith)
least-passes p (suc n) h = elim (cases_Bool (some_below p n)) [
  | inl e ↦ let k = some_below-gives p n e in
      let m : least p n ≤ k.0 = least-below p n k.0 k.1 k.2 in
      let here : p (least p n) ≡ true = least-passes p n (omega (arith, k.1)) in
      rw e here
  | inr e ↦ elim (cases_Bool (p n)) [ inl f ↦ rw (e, f) f | inr f ↦ absurd (grind (arith, e, f)) ]
]

-- of those that pass, one with the greatest number
pub some_greatest : (p : ℕ → Bool) (f : ℕ → ℕ) (n k : ℕ) → k < n → p k ≡ true → (m : ℕ) × (m < n) × (p m ≡ true) × ((q : ℕ) → q < n → p q ≡ true → f q ≤ f m)
some_greatest p f zero k l h = absurd (omega arith)
some_greatest p f (suc n) k l h = elim (cases_Bool (some_below p n)) [
  | inl e ↦ let j = some_below-gives p n e in
      let m = some_greatest p f n j.0 j.1 j.2 in
      elim (cases_Bool (p n && leb (f m.0) (f n))) [
        | inl b ↦ let parts = and_parts (p n) _ b in (
          n,
          omega arith,
          parts.0,
          λ q ql qh. elim (cases_eq q n) [
            | inl s ↦ rw s (omega arith)
            | inr s ↦ let a : f q ≤ f m.0 = m.3 q (omega arith) qh in omega (arith, leb-true _ _ parts.1)
          ],
        )
        | inr b ↦ (
          m.0,
          omega (arith, m.1),
          m.2,
          λ q ql qh. elim (cases_eq q n) [
            | inl s ↦ elim (and_cases (p n) _ b) [ inl x ↦ absurd (true≢false (sym (rw s at qh) ∙ x)) | inr x ↦ let y : f n < f m.0 = leb-false _ _ x in rw s (omega arith) ]
            | inr s ↦ m.3 q (omega arith) qh
          ],
        )
      ]
  | inr e ↦ elim (cases_eq k n) [
    | inl s ↦ (k, l, h, λ q ql qh. elim (cases_eq q n) [ inl t ↦ rw (t, s) (omega arith) | inr t ↦ absurd (true≢false (sym (some_below-is p n q (omega arith) qh) ∙ e)) ])
    | inr s ↦ absurd (true≢false (sym (some_below-is p n k (omega arith) h) ∙ e))
  ]
]
