-- A binary search tells whether a list in order has an element.
use Rattle.std.proofs.Common.{◌≡◌, ℕ, ◌<◌, ◌≤◌, Bool, true, false, List, length, get_or, sym, ◌∙◌, ap, inl, inr}
use Rattle.std.specs.Prelude.{Result, Ok, Err}
use Rattle.std.specs.List.{list_any}
use Rattle.std.specs.List.Sorted.{IsPartitionPoint}
use Rattle.std.specs.Result.{MatchResult, is_ok}
use Rattle.std.specs.Cmp.{IsTotalOrder}
use Rattle.std.specs.declared.cmp.Ordering.{Ordering}
use Rattle.std.specs.declared.cmp.Ordering.TheVariants.{Less, Greater}
use Rattle.std.proofs.lemmas.Bool.{cases_Bool}
use Rattle.std.proofs.lemmas.List.Elements.{Contains-get_or}
use Rattle.std.proofs.lemmas.List.Folds.{list_any_at, list_any_none}
use Rattle.fol_keyed.proofs.Sorted.{none_between}

module _ {K : Type 0} (same : K → K → Bool) (same_is : (a b : K) → same a b ≡ true → a ≡ b) (same_self : (a : K) → same a a ≡ true) (cmp : K → K → Ordering) (o : IsTotalOrder cmp) where
  -- an element that would stand between what is below it and what is above it is not there
  pub gap_tells : (xs : List K) (i : ℕ) (k : K) → IsPartitionPoint (λ x. cmp x k ≡ Less) (λ x. cmp x k ≡ Greater) xs i → list_any (same k) xs ≡ false
  gap_tells xs i k h = list_any_none (same k) xs other
    where
      other : (j : ℕ) (d : K) → j < length xs → same k (get_or xs j d) ≡ false
      other j d l =
          elim (cases_Bool (same k (get_or xs j d))) [
            | inl e ↦ absurd (none_between (λ (q : K). q) cmp o xs i k h (get_or xs j d) (Contains-get_or xs j d l) (sym (same_is k (get_or xs j d) e)))
            | inr e ↦ e
          ]

  pub search_tells : (xs : List K) (k : K) (r : Result ℕ ℕ)
      → MatchResult r (λ i. (i < length xs) × ((d : K) → get_or xs i d ≡ k)) (λ i. (i ≤ length xs) × IsPartitionPoint (λ x. cmp x k ≡ Less) (λ x. cmp x k ≡ Greater) xs i)
      → is_ok r ≡ list_any (same k) xs
  search_tells xs k (Ok i) h = sym (list_any_at (same k) xs i k h.0 (ap (λ q. same k q) (h.1 k) ∙ same_self k))
  search_tells xs k (Err i) h = sym (gap_tells xs i k h.1)
