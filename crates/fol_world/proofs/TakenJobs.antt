-- The tasks that a Begin takes, of those of a bag.
use Rattle.std.proofs.Common.{◌≡◌, ℕ, ◌+◌, ◌-◌, ◌≤◌, ◌<◌, refl, sym, ◌∙◌, ap, arith, true, false, inl, inr, not, ◌⊎◌, List, [], ◌∷◌}
use Rattle.std.specs.Prelude.{nat_eq, nat_le, Option, Some, None}
use Rattle.std.specs.Option.{option_map, ForSome}
use Rattle.std.proofs.Math.Path.{fun_ext}
use Rattle.std.proofs.lemmas.Bool.{cases_Bool, eqb-true, leb-true, leb-false, le-leb, lt-leb}
use Rattle.std.proofs.lemmas.Option.{same_Some}
use Rattle.fol_model.specs.declared.tasks.Task.{Task}
use Rattle.fol_model.specs.ActionStep.{Recorded}
use Rattle.fol_model.specs.Job.{Job}
use Rattle.fol_queues.specs.declared.dated.Dated.{Dated}
use Rattle.fol_queues.specs.Waiting.{dated_in, is_due, job_of, option_filter}
use Rattle.fol_data.specs.Rests.{IsInTime}
use Rattle.fol_world.specs.Begun.{due_task, left_job}

-- a task that is found has the number
found_number : (ds : List Dated) (n : ℕ) (d : Dated) → dated_in ds n ≡ Some d → d.task.number ≡ n
found_number [] n d e = absurd (cc)
found_number (x ∷ xs) n d e = elim (cases_Bool (nat_eq x.task.number n)) [
  | inl k ↦ let h : Some x ≡ Some d = rw k at e in ap (λ (z : Dated). z.task.number) (sym (same_Some x d h)) ∙ eqb-true x.task.number n k
  | inr k ↦ let h : dated_in xs n ≡ Some d = rw k at e in found_number xs n d h
]

module _ (rec : Recorded) (tick : ℕ) where
  -- a task with this rest is due where its deadline is
  same_due : (d : Dated) → IsInTime tick d → is_due (tick + 1) d ≡ nat_le (d.deadline - tick) 1
  same_due d t = elim (cases_Bool (nat_le d.deadline (tick + 1))) [
    | inl k ↦ let l : d.deadline ≤ tick + 1 = leb-true d.deadline (tick + 1) k in k ∙ sym (le-leb (d.deadline - tick) 1 (omega (arith, t.low)))
    | inr k ↦ let l : tick + 1 < d.deadline = leb-false d.deadline (tick + 1) k in k ∙ sym (lt-leb (d.deadline - tick) 1 (omega arith))
  ]

  -- what the store had under a number, by what the bag has
  had : (d : Dated) (o : Option Job) → Some (job_of tick d) ≡ option_filter (λ j. rec j.chunk) o → (j : Job) × (o ≡ Some j) × (rec j.chunk ≡ true) × (j ≡ job_of tick d)
  had d None e = absurd (cc)
  had d (Some j) e = elim (cases_Bool (rec j.chunk)) [
    | inl k ↦ let h : Some (job_of tick d) ≡ Some j = rw k at e in (j, refl, k, sym (same_Some (job_of tick d) j h))
    | inr k ↦ let h : Some (job_of tick d) ≡ None = rw k at e in absurd (cc)
  ]

  had_none : (o : Option Job) → None ≡ option_filter (λ j. rec j.chunk) o → (o ≡ None) ⊎ ((j : Job) × (o ≡ Some j) × (rec j.chunk ≡ false))
  had_none None e = inl refl
  had_none (Some j) e = elim (cases_Bool (rec j.chunk)) [
    | inl k ↦ let h : None ≡ Some j = rw k at e in absurd (cc)
    | inr k ↦ inr (j, refl, k)
  ]

  left_one : (x : Option Dated) (o : Option Job) → ForSome x (IsInTime tick) → option_map (job_of tick) x ≡ option_filter (λ j. rec j.chunk) o
      → option_map (job_of (tick + 1)) (option_filter (λ d. not (is_due (tick + 1) d)) x) ≡ left_job rec o
  left_one None o t e = elim (had_none o e) [
    | inl z ↦ rw z refl
    | inr z ↦ let k = z.2 in rw (z.1, k) refl
  ]
  left_one (Some d) o t e =
      let z = had d o e in
      let in_time : IsInTime tick d = t d refl in
      let at : o ≡ Some (job_of tick d) = z.1 ∙ ap (λ (j : Job). Some j) z.3 in
      let here : rec d.task.chunk ≡ true = sym (ap (λ (j : Job). rec j.chunk) z.3) ∙ z.2 in
      elim (cases_Bool (nat_le (d.deadline - tick) 1)) [
        | inl k ↦ let due : nat_le d.deadline (tick + 1) ≡ true = same_due d in_time ∙ k in rw (at, due, here, k) refl
        | inr k ↦ let due : nat_le d.deadline (tick + 1) ≡ false = same_due d in_time ∙ k in
            let rest : d.deadline - (tick + 1) ≡ d.deadline - tick - 1 = omega arith in
            rw (at, due, here, k, rest) refl
      ]

  due_one : (x : Option Dated) (o : Option Job) (n : ℕ) → ForSome x (IsInTime tick) → ForSome x (λ d. d.task.number ≡ n) → option_map (job_of tick) x ≡ option_filter (λ j. rec j.chunk) o
      → option_map (λ d. d.task) (option_filter (is_due (tick + 1)) x) ≡ due_task rec n o
  due_one None o n t m e = elim (had_none o e) [
    | inl z ↦ rw z refl
    | inr z ↦ let k = z.2 in rw (z.1, k) refl
  ]
  due_one (Some d) o n t m e =
      let z = had d o e in
      let in_time : IsInTime tick d = t d refl in
      let at : o ≡ Some (job_of tick d) = z.1 ∙ ap (λ (j : Job). Some j) z.3 in
      let here : rec d.task.chunk ≡ true = sym (ap (λ (j : Job). rec j.chunk) z.3) ∙ z.2 in
      let number : d.task.number ≡ n = m d refl in
      elim (cases_Bool (nat_le (d.deadline - tick) 1)) [
        | inl k ↦ let due : nat_le d.deadline (tick + 1) ≡ true = same_due d in_time ∙ k in rw (at, due, here, k, ← number) refl
        | inr k ↦ let due : nat_le d.deadline (tick + 1) ≡ false = same_due d in_time ∙ k in rw (at, due, here, k) refl
      ]

  -- the tasks of a queue, by what the store had
  module _ (ds ds' : List Dated) (jobs : ℕ → Option Job) (in_time : (n : ℕ) → ForSome (dated_in ds n) (IsInTime tick)) (had_jobs : ◌≡◌ {A = ℕ → Option Job} (λ n. option_map (job_of tick) (dated_in ds n)) (λ n. option_filter (λ (j : Job). rec j.chunk) (jobs n))) where
    same_at : (n : ℕ) → option_map (job_of tick) (dated_in ds n) ≡ option_filter (λ j. rec j.chunk) (jobs n)
    same_at n = ap (λ (f : ℕ → Option Job). f n) had_jobs

    pub left_jobs : dated_in ds' ≡ (λ n. option_filter (λ d. not (is_due (tick + 1) d)) (dated_in ds n)) → ◌≡◌ {A = ℕ → Option Job} (λ n. option_map (job_of (tick + 1)) (dated_in ds' n)) (λ n. left_job rec (jobs n))
    left_jobs e = fun_ext (λ n. ap (λ (f : ℕ → Option Dated). option_map (job_of (tick + 1)) (f n)) e ∙ left_one (dated_in ds n) (jobs n) (in_time n) (same_at n))

    pub due_tasks : (f : ℕ → Option Task) → f ≡ (λ n. option_map (λ (d : Dated). d.task) (option_filter (is_due (tick + 1)) (dated_in ds n))) → f ≡ (λ n. due_task rec n (jobs n))
    due_tasks f e = e ∙ fun_ext (λ n. due_one (dated_in ds n) (jobs n) n (in_time n) (λ d x. found_number ds n d x) (same_at n))
