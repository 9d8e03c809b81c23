-- How many numbers below a number pass a test.
use Rattle.std.proofs.Common.{add-one, ◌≡◌, ℕ, zero, suc, ◌+◌, ◌≤◌, ◌<◌, refl, sym, arith, Bool, true, false, cond, inl, inr, ◌&&◌, not}
use Rattle.std.specs.Prelude.{◌≢◌}
use Rattle.std.proofs.lemmas.Bool.{cases_Bool, cases_eq}
use Rattle.fol_model.specs.Counting.{count_below}

pub count_below-mono : (p : ℕ → Bool) (k n : ℕ) → k ≤ n → count_below p k ≤ count_below p n
unfolding count_below
count_below-mono p k zero l = let e : k ≡ 0 = omega arith in rw e (omega arith)
count_below-mono p k (suc n) l = elim (cases_eq k (suc n)) [ inl e ↦ rw e (omega arith) | inr e ↦ omega (arith, count_below-mono p k n (omega arith)) ]

pub count_below-lt : (p : ℕ → Bool) (k n : ℕ) → k < n → p k ≡ true → count_below p k < count_below p n
unfolding count_below
count_below-lt p k n l h =
    let a : count_below p (suc k) ≤ count_below p n = count_below-mono p (suc k) n l in
    let b : count_below p (suc k) ≡ 1 + count_below p k = rw h refl in omega arith

pub count_below-at : (p : ℕ → Bool) (n i : ℕ) → i < count_below p n → (k : ℕ) × (k < n) × (p k ≡ true) × (count_below p k ≡ i)
unfolding count_below
count_below-at p zero i l = absurd (omega arith)
count_below-at p (suc n) i l = elim (cases_eq i (count_below p n)) [
  | inl e ↦ elim (cases_Bool (p n)) [
    | inl h ↦ (n, omega arith, h, sym e)
    | inr h ↦ let b : count_below p (suc n) ≡ 0 + count_below p n = rw h refl in absurd (omega arith)
  ]
  | inr e ↦ elim (cases_Bool (p n)) [
    | inl h ↦ let b : count_below p (suc n) ≡ 1 + count_below p n = rw h refl in
        let k = count_below-at p n i (omega arith) in (k.0, omega (arith, k.1), k.2, k.3)
    | inr h ↦ let b : count_below p (suc n) ≡ 0 + count_below p n = rw h refl in
        let k = count_below-at p n i (omega arith) in (k.0, omega (arith, k.1), k.2, k.3)
  ]
]

pub count_some : (p : ℕ → Bool) (k n : ℕ) → k < n → p k ≡ true → 0 < count_below p n
count_some p k n l h = let x = count_below-lt p k n l h in omega arith

pub count_zero : (p : ℕ → Bool) (m : ℕ) → ((n : ℕ) → p n ≡ false) → count_below p m ≡ 0
unfolding count_below
count_zero p zero h = refl
count_zero p (suc m) h = let x = h m in let i = count_zero p m h in rw (x, i) refl

-- where the last k numbers below a number pass, k numbers do
pub count_last : (p : ℕ → Bool) (n k : ℕ) → ((i : ℕ) → n ≤ i → i < n + k → p i ≡ true) → k ≤ count_below p (n + k)
unfolding count_below
count_last p n zero h = omega arith
count_last p n (suc k) h =
    let e : n + suc k ≡ suc (n + k) = omega arith in
    let a : p (n + k) ≡ true = h (n + k) (omega arith) (omega arith) in
    let i = count_last p n k (λ j l m. h j l (omega arith)) in
    rw (e, a) (omega arith)

-- ---- two tests
pub count_same : (p q : ℕ → Bool) (n : ℕ) → ((k : ℕ) → k < n → p k ≡ q k) → count_below p n ≡ count_below q n
unfolding count_below
count_same p q zero h = refl
count_same p q (suc n) h = let e = h n (omega arith) in let r = count_same p q n (λ k l. h k (omega arith)) in rw (e, r) refl

-- one number less
pub count_less : (p q : ℕ → Bool) (n m : ℕ) → m < n → q m ≡ false → ((k : ℕ) → k ≢ m → p k ≡ q k) → count_below p n ≡ cond (p m) 1 0 + count_below q n
unfolding count_below
count_less p q zero m l z h = absurd (omega arith)
count_less p q (suc n) m l z h = elim (cases_eq m n) [
  | inl e ↦ let r = count_same p q n (λ k b. h k (λ x. omega arith)) in let zn : q n ≡ false = rw e at z in rw (r, zn, e) (omega arith)
  | inr e ↦ let r = count_less p q n m (omega arith) z h in let s = h n (λ x. e (sym x)) in rw s (omega arith)
]

pub count_next : (p : ℕ → Bool) (n : ℕ) → p n ≡ false → count_below p (n + 1) ≡ count_below p n
unfolding count_below
count_next p n h = rw (add-one, h) (omega arith)

-- those that pass q and those that do not
pub count_split : (p q r : ℕ → Bool) (n : ℕ) → ((k : ℕ) → r k ≡ (not (q k) && p k)) → count_below p n ≡ count_below (λ k. q k && p k) n + count_below r n
unfolding count_below
count_split p q r zero h = omega arith
count_split p q r (suc n) h = let i = count_split p q r n h in let e = h n in
    elim (cases_Bool (q n)) [ inl x ↦ rw (e, x) (omega arith) | inr x ↦ rw (e, x) (omega arith) ]
