-- The numbers below a number are in order.
use Rattle.std.proofs.Common.{◌≡◌, ℕ, zero, suc, ◌<◌, ◌≤◌, refl, sym, ◌∙◌, ap, arith, Bool, true, false, inl, inr, List, [], ◌∷◌, length}
use Rattle.std.specs.Prelude.{filter, nat_eq, nat_lt}
use Rattle.std.specs.List.{AllByRecursion, count_by, list_any}
use Rattle.std.specs.List.Sorted.{IsStrictlySortedBy}
use Rattle.std.specs.Ordering.{nat_cmp, eq_by_cmp}
use Rattle.std.specs.Cmp.{nat_cmp_is, ranks}
use Rattle.std.specs.declared.cmp.Ordering.TheVariants.{Less}
use Rattle.std.proofs.Math.Path.{fun_ext}
use Rattle.std.proofs.lemmas.Cmp.{nat_cmp_total}
use Rattle.std.proofs.lemmas.List.Folds.{list_any-append}
use Rattle.std.proofs.lemmas.Bool.{or_cases, true≢false, lt-ltb, ltb-true, cases_eq, eq-eqb, eqb-true, or_left, or_right}
use Rattle.fol_model.specs.Universe.{numbers_below}
use Rattle.fol_laws.specs.Orders.{Lists}
use Rattle.fol_laws.proofs.Listed as listed
use Rattle.fol_laws.proofs.Listed.{Tells}
use Rattle.fol_laws.proofs.SortedRows.{AllBefore, all_append, sorted_append}
use Rattle.fol_laws.proofs.Tests.{same_answer}

pub numbers_tell : Tells nat_cmp
numbers_tell = record { order = nat_cmp_total; same = λ a b e. let h = ranks a b in rw e at h }

all_below : (n k : ℕ) → k ≤ n → AllByRecursion (λ x. nat_cmp x n ≡ Less) (numbers_below k)
unfolding numbers_below
all_below n zero l = tt
all_below n (suc k) l = let h : k < n = omega arith in all_append (λ x. nat_cmp x n ≡ Less) (numbers_below k) (k ∷ []) (all_below n k (omega arith)) (sym (nat_cmp_is k n Less h), tt)

before_last : (n : ℕ) (xs : List ℕ) → AllByRecursion (λ x. nat_cmp x n ≡ Less) xs → AllBefore nat_cmp xs (n ∷ [])
before_last n [] h = tt
before_last n (x ∷ xs) h = ((h.0, tt), before_last n xs h.1)

pub numbers_sorted : (n : ℕ) → IsStrictlySortedBy nat_cmp (numbers_below n)
unfolding numbers_below IsStrictlySortedBy
numbers_sorted zero = tt
numbers_sorted (suc n) = sorted_append nat_cmp (numbers_below n) (n ∷ []) (numbers_sorted n) (tt, tt) (before_last n (numbers_below n) (all_below n n (omega arith)))

-- a number below n is in the list
pub in_numbers : (n k : ℕ) → k < n → list_any (nat_eq k) (numbers_below n) ≡ true
unfolding numbers_below
in_numbers zero k l = absurd (omega arith)
in_numbers (suc n) k l = list_any-append (nat_eq k) (numbers_below n) (n ∷ []) ∙ elim (cases_eq k n) [
  | inl e ↦ let z : nat_eq k n ≡ true = eq-eqb _ _ e in or_right (list_any (nat_eq k) (numbers_below n)) _ (rw z refl)
  | inr e ↦ or_left _ _ (in_numbers n k (omega arith))
]

only_numbers : (n k : ℕ) → list_any (nat_eq k) (numbers_below n) ≡ true → k < n
unfolding numbers_below
only_numbers zero k h = absurd (true≢false (sym h))
only_numbers (suc n) k h = elim (or_cases (list_any (nat_eq k) (numbers_below n)) (list_any (nat_eq k) (n ∷ [])) (sym (list_any-append (nat_eq k) (numbers_below n) (n ∷ [])) ∙ h)) [
  | inl e ↦ omega (arith, only_numbers n k e)
  | inr e ↦ elim (or_cases (nat_eq k n) false e) [ inl x ↦ let y = eqb-true _ _ x in omega arith | inr x ↦ absurd (true≢false (sym x)) ]
]

-- the order ties just what is one number
tied : (a b : ℕ) → eq_by_cmp nat_cmp a b ≡ nat_eq a b
tied a b = same_answer (eq_by_cmp nat_cmp a b) (nat_eq a b)
    (λ h. eq-eqb _ _ (listed.same_by nat_cmp numbers_tell a b h))
    (λ h. let e : a ≡ b = eqb-true a b h in rw e (listed.own nat_cmp numbers_tell b))

listed_by : (a : ℕ) (xs : List ℕ) → list_any (eq_by_cmp nat_cmp a) xs ≡ list_any (nat_eq a) xs
listed_by a xs = ap (λ (p : ℕ → Bool). list_any p xs) (fun_ext (tied a))

-- a list in order whose members are the numbers below n that pass is what the test keeps of the numbers below n
pub number_rows_are : (n : ℕ) (p : ℕ → Bool) (xs : List ℕ) → IsStrictlySortedBy nat_cmp xs → ((k : ℕ) → list_any (nat_eq k) xs ≡ p k) → ((k : ℕ) → p k ≡ true → k < n)
    → (xs ≡ filter p (numbers_below n)) × (length xs ≡ count_by p (numbers_below n))
number_rows_are n p xs a h l = listed.rows_are nat_cmp numbers_tell (numbers_below n) (numbers_sorted n) p xs a (λ k. listed_by k xs ∙ h k) (λ k m. listed_by k (numbers_below n) ∙ in_numbers n k (l k m))

pub numbers_listed : (n : ℕ) → Lists nat_cmp (λ k. nat_lt k n) (numbers_below n)
numbers_listed n = record {
  order = numbers_sorted n;
  members = λ k. listed_by k (numbers_below n) ∙ same_answer (list_any (nat_eq k) (numbers_below n)) (nat_lt k n) (λ h. lt-ltb _ _ (only_numbers n k h)) (λ l. in_numbers n k (ltb-true _ _ l));
}
