-- What was taken out of a queue can come back.
use Rattle.std.proofs.Common.{◌≡◌, ℕ, ◌||◌, Bool, true, false, not, refl, sym, ◌∙◌, ap, subst, arith, inl, inr, Option, Some, None, IsNone}
use Rattle.std.specs.Prelude.{IsTrue, nat_eq}
use Rattle.std.specs.Option.{is_none, option_map, option_or, ForSome}
use Rattle.std.proofs.lemmas.Bool.{cases_Bool, le-leb}
use Rattle.fol_model.specs.declared.tasks.Task.{Task}
use Rattle.fol_model.specs.ActionStep.{at_id}
use Rattle.fol_queues.specs.declared.dated.Dated.{Dated}
use Rattle.fol_queues.specs.Again.{dated_at}
use Rattle.fol_queues.specs.Waiting.{is_due, option_filter}

module _ (p : Dated → Bool) where
  -- what was taken waits no more
  pub taken_apart : (o : Option Dated) → IsTrue (is_none (option_filter (λ d. not (p d)) o) || is_none (option_map (λ d. d.task) (option_filter p o)))
  taken_apart None = refl
  taken_apart (Some d) = elim (cases_Bool (p d)) [ inl e ↦ rw e refl | inr e ↦ rw e refl ]

  module _ (q : Dated → Bool) where
    -- nor once others were taken too
    pub first_apart : (o : Option Dated) → IsTrue (is_none (option_filter (λ d. not (q d)) (option_filter (λ d. not (p d)) o)) || is_none (option_map (λ d. d.task) (option_filter p o)))
    first_apart None = refl
    first_apart (Some d) = elim (cases_Bool (p d)) [
      | inl e ↦ rw e refl
      | inr e ↦ elim (cases_Bool (q d)) [ inl f ↦ rw (e, f) refl | inr f ↦ rw (e, f) refl ]
    ]

    -- and where the first ones came back, those that were taken after them do not wait
    pub second_apart : (deadline : ℕ) (o : Option Dated)
        → IsTrue (is_none (option_or (option_map (dated_at deadline) (option_map (λ d. d.task) (option_filter p o))) (option_filter (λ d. not (q d)) (option_filter (λ d. not (p d)) o))) || is_none (option_map (λ d. d.task) (option_filter q (option_filter (λ d. not (p d)) o))))
    second_apart deadline None = refl
    second_apart deadline (Some d) = elim (cases_Bool (p d)) [
      | inl e ↦ rw e refl
      | inr e ↦ elim (cases_Bool (q d)) [ inl f ↦ rw (e, f) refl | inr f ↦ rw (e, f) refl ]
    ]

-- where the one task of a queue was taken, and came back with its deadline
module _ (tasks : ℕ → Option Dated) (number deadline : ℕ) (t : Task) (is : tasks ≡ at_id (λ n. None) number (Some (dated_at deadline t))) where
  abbrev back : ℕ → Option Dated
  back n = option_or (option_map (dated_at deadline) (option_map (λ d. d.task) (option_filter (is_due deadline) (tasks n)))) (option_filter (λ d. not (is_due deadline d)) (tasks n))

  at_number : (n : ℕ) → nat_eq number n ≡ true → back n ≡ Some (dated_at deadline t)
  at_number n e =
      let own : tasks n ≡ Some (dated_at deadline t) = ap (λ (f : ℕ → Option Dated). f n) is ∙ rw e refl in
      rw (own, le-leb deadline deadline (omega arith)) refl

  elsewhere : (n : ℕ) → nat_eq number n ≡ false → back n ≡ None
  elsewhere n e =
      let own : tasks n ≡ None = ap (λ (f : ℕ → Option Dated). f n) is ∙ rw e refl in
      rw own refl

  pub no_other : (n : ℕ) → nat_eq number n ≡ false → IsNone (back n)
  no_other n e = rw (elsewhere n e) refl

  pub one_back : (P : Dated → Type 0) → P (dated_at deadline t) → (n : ℕ) → ForSome (back n) P
  one_back P p n x h = elim (cases_Bool (nat_eq number n)) [
    | inl e ↦ let same : Some (dated_at deadline t) ≡ Some x = sym (at_number n e) ∙ h in let s : dated_at deadline t ≡ x = cc in subst P s p
    | inr e ↦ let none : None ≡ Some x = sym (elsewhere n e) ∙ h in absurd cc
  ]

-- what a queue and a list have at a number, where they are known at each
pub dated_there : (f g : ℕ → Option Dated) → f ≡ g → (n : ℕ) → f n ≡ g n
dated_there f g e n = ap (λ (h : ℕ → Option Dated). h n) e

pub task_there : (f g : ℕ → Option Task) → f ≡ g → (n : ℕ) → f n ≡ g n
task_there f g e n = ap (λ (h : ℕ → Option Task). h n) e
