-- The outcomes that an End lists are determined by those that its loads and unloads were told.
use Rattle.std.proofs.Common.{◌≡◌, ℕ, refl, sym, ◌∙◌, ap, true, false, inl, inr, List, [], ◌∷◌, filter}
use Rattle.std.specs.Prelude.{Bool, nat_eq}
use Rattle.std.specs.List.{AllByRecursion}
use Rattle.std.proofs.lemmas.Bool.{cases_Bool, eqb-true}
use Rattle.fol_model.specs.ActionStep.{Flat, Recorded, act, plain_of}
use Rattle.fol_model.specs.FlatTick.{outcomes}
use Rattle.fol_model.specs.End.{outcome_in}
use Rattle.fol_model.specs.declared.tasks.Outcome.{Outcome}
use Rattle.fol_model.specs.declared.tasks.Ran.{Ran}
use Rattle.fol_model.specs.declared.tasks.Task.{Task}
use Rattle.fol_tick.specs.Calls.{is_hosted}
use Rattle.fol_tick.proofs.Outcomes.{outcome_same}

-- a list without some of its numbers has the same outcome of each number that is left
outcome_kept : (p : ℕ → Bool) (xs : List Ran) (n : ℕ) → p n ≡ true → outcome_in (filter (λ (x : Ran). p x.number) xs) n ≡ outcome_in xs n
outcome_kept p [] n own = refl
outcome_kept p (x ∷ xs) n own =
    let rest = outcome_kept p xs n own in
    elim (cases_Bool (p x.number)) [
      | inl kept ↦ rw kept (elim (cases_Bool (nat_eq x.number n)) [ inl same ↦ rw same refl | inr other ↦ rw other rest ])
      | inr left ↦ elim (cases_Bool (nat_eq x.number n)) [
        | inl same ↦ let number : x.number ≡ n = eqb-true x.number n same in let never : false ≡ true = sym left ∙ ap p number ∙ own in absurd (cc)
        | inr other ↦ rw (left, other) rest
      ]
    ]

-- the numbers for which p holds are those of the tasks that ask a host
abbrev pub AreMarked : (ℕ → Bool) → List Task → Type 0
AreMarked p ts = AllByRecursion (λ (t : Task). p t.number ≡ is_hosted (plain_of t.action)) ts

same_outcomes : (rec : Recorded) (p : ℕ → Bool) (g h : ℕ → Outcome) (f : Flat) (ts : List Task) → ((n : ℕ) → p n ≡ true → g n ≡ h n) → AreMarked p ts
    → outcomes rec g f ts ≡ outcomes rec h f ts
same_outcomes rec p g h f [] same marked = refl
same_outcomes rec p g h f (t ∷ ts) same marked =
    let first = outcome_same rec f (plain_of t.action) (g t.number) (h t.number) (λ asks. same t.number (marked.0 ∙ asks)) in
    let rest = same_outcomes rec p g h (act rec f (plain_of t.action)) ts same marked.1 in
    cc

-- two lists of outcomes that each give the tick again, and that tell the same of the tasks that asked, are one
pub one_list : (rec : Recorded) (p : ℕ → Bool) (f : Flat) (ts : List Task) (told xs ys : List Ran) → AreMarked p ts
    → filter (λ (x : Ran). p x.number) xs ≡ told → filter (λ (x : Ran). p x.number) ys ≡ told
    → xs ≡ outcomes rec (outcome_in xs) f ts → ys ≡ outcomes rec (outcome_in ys) f ts → xs ≡ ys
one_list rec p f ts told xs ys marked first second x_again y_again =
    x_again
    ∙ same_outcomes rec p (outcome_in xs) (outcome_in ys) f ts
    (λ n own. sym (outcome_kept p xs n own) ∙ ap (λ (zs : List Ran). outcome_in zs n) (first ∙ sym second) ∙ outcome_kept p ys n own) marked
    ∙ sym y_again
