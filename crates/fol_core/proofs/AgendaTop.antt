-- The top of the stack of regions.
use Rattle.std.proofs.Common.{◌≡◌, ℕ, ◌-◌, sym, ◌∙◌, ap, arith, true, false, inl, inr, List, [], ◌∷◌, ◌++◌, length, suc, take}
use Rattle.std.specs.Prelude.{nat_eq, IfNone, IfSome, Option, Some, None, slice_get}
use Rattle.std.specs.List.{list_any}
use Rattle.std.proofs.Math.Seq.{drop-cons}
use Rattle.std.proofs.lemmas.Bool.{false_from_ne_true, true≢false}
use Rattle.std.proofs.lemmas.List.{drop_all, nil_from_length, take-append-drop}
use Rattle.std.proofs.lemmas.Option.{same_Some, slice_get_cases}
use Rattle.fol_model.specs.GridState.{GridState}
use Rattle.fol_store.specs.Bag.{Bag}
use Rattle.fol_world.specs.Agenda.{IsAgenda, owes}

-- the last of a list stands behind the others
last_behind : (xs : List ℕ) (r : ℕ) → slice_get xs (length xs - 1) ≡ Some r → xs ≡ take (length xs - 1) xs ++ r ∷ []
last_behind xs r e = elim (slice_get_cases xs (length xs - 1)).1 [
  | inl k ↦ let same : k.0 ≡ r = same_Some k.0 r (sym k.2 ∙ e) in
      sym (take-append-drop (length xs - 1) xs) ∙ ap (λ ys. take (length xs - 1) xs ++ ys)
      (drop-cons xs (length xs - 1) k.0 k.1 ∙ (λ i. (k.3 ∙ same) i ∷ drop_all (suc (length xs - 1)) xs (omega arith) i))
  | inr k ↦ let none : None ≡ Some r = sym k.1 ∙ e in absurd (cc)
]

-- nothing is behind the last place of an empty list alone
no_last : (xs : List ℕ) → slice_get xs (length xs - 1) ≡ None → xs ≡ []
no_last xs e = nil_from_length xs (elim (slice_get_cases xs (length xs - 1)).1 [
  | inl k ↦ let some : Some k.0 ≡ None = sym k.2 ∙ e in absurd (cc)
  | inr k ↦ omega (arith, k.0)
])

module _ (xs : List ℕ) (g : GridState) (f : ℕ → Bag) (agenda : IsAgenda xs g f) where
  -- the top, where there is one, owes a tick
  pub top_owes : (o : Option ℕ) → o ≡ slice_get xs (length xs - 1) → IfSome o (λ r. owes g f r ≡ true)
  top_owes None e = tt
  top_owes (Some r) e = agenda.top (take (length xs - 1) xs) r (last_behind xs r (sym e))

  -- where there is none, no region owes one
  pub none_owes : (o : Option ℕ) → o ≡ slice_get xs (length xs - 1) → IfNone o ((r : ℕ) → owes g f r ≡ false)
  none_owes None e = λ r. false_from_ne_true (owes g f r) (λ k. true≢false (sym (agenda.covers r k) ∙ ap (list_any (nat_eq r)) (no_last xs (sym e))))
  none_owes (Some r) e = tt
