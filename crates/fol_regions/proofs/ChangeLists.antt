-- The ids that a release lists.
use Rattle.std.proofs.Common.{◌≡◌, ℕ, zero, suc, ◌+◌, ◌≤◌, ◌<◌, refl, sym, ◌∙◌, ap, arith, Bool, true, false, [], ◌∷◌, ◌++◌}
use Rattle.std.specs.Prelude.{filter}
use Rattle.std.specs.List.{range_with_len}
use Rattle.std.proofs.lemmas.List.Elements.{filter-append}
use Rattle.fol_model.specs.Universe.{numbers_below}

-- one more number
pub range_more : (a n : ℕ) → range_with_len a (n + 1) ≡ range_with_len a n ++ (a + n) ∷ []
range_more a zero = let e : a + 0 ≡ a = omega arith in rw e refl
range_more a (suc n) = let i = range_more (a + 1) n in let e : suc n + 1 ≡ suc (n + 1) = omega arith in let f : a + 1 + n ≡ a + suc n = omega arith in rw e (ap (λ xs. a ∷ xs) (i ∙ ap (λ k. range_with_len (a + 1) n ++ k ∷ []) f))

-- the numbers from n on, of those below n + k
pub numbers_from : (p : ℕ → Bool) (n k : ℕ) → ((r : ℕ) → r < n → p r ≡ false) → ((r : ℕ) → n ≤ r → r < n + k → p r ≡ true) → filter p (numbers_below (n + k)) ≡ range_with_len n k
unfolding numbers_below
numbers_from p n zero low high = let e : n + 0 ≡ n = omega arith in rw e (none_below n (λ r l. low r l))
  where
    none_below : (m : ℕ) → ((r : ℕ) → r < m → p r ≡ false) → filter p (numbers_below m) ≡ []
    none_below zero h = refl
    none_below (suc m) h = let e = filter-append p (numbers_below m) (m ∷ []) in let i = none_below m (λ r l. h r (omega arith)) in let f = h m (omega arith) in rw (e, i, f) refl
numbers_from p n (suc k) low high =
    let i = numbers_from p n k low (λ r l m. high r l (omega arith)) in
    let a : n + suc k ≡ suc (n + k) = omega arith in
    let e = filter-append p (numbers_below (n + k)) ((n + k) ∷ []) in
    let f = high (n + k) (omega arith) (omega arith) in
    let g : suc k ≡ k + 1 = omega arith in
    rw (a, e, i, f) (sym (ap (range_with_len n) g ∙ range_more n k))
