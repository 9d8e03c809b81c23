-- Which tasks an End names.
use Rattle.std.proofs.Common.{◌≡◌, ℕ, zero, suc, ◌≤◌, ◌<◌, refl, ◌∙◌, ap, arith, true, false, cond, inl, inr, List, [], ◌∷◌, ◌&&◌}
use Rattle.std.specs.Prelude.{nat_eq, nat_le, Option, Some, None, count_by}
use Rattle.std.proofs.lemmas.Bool.{cases_Bool, cases_eq, eq-eqb, ne_eqb, leb-true}
use Rattle.fol_laws.proofs.ListCounts.{count_by-cons}
use Rattle.fol_laws.proofs.Coordinates.{count_by-append}
use Rattle.fol_model.specs.ActionStep.{Flat, Recorded, act, plain_of, outcome_of}
use Rattle.fol_model.specs.FlatTick.{outcomes, flat_tick}
use Rattle.fol_model.specs.World.{World, due, due_below}
use Rattle.fol_model.specs.Job.{Job, taken_task, is_taken}
use Rattle.fol_model.specs.End.{ticked, outcome_in, answers}
use Rattle.fol_model.specs.Run.{Allowed}
use Rattle.fol_model.specs.DueRule.{names}
use Rattle.fol_model.specs.declared.tasks.Outcome.{Outcome}
use Rattle.fol_model.specs.declared.tasks.Ran.{Ran}
use Rattle.fol_model.specs.declared.tasks.Task.{Task}
use Rattle.fol_model.specs.declared.events.Event.{Event}
use Rattle.fol_model.specs.declared.events.Event.TheVariants.{Load, Unload, Post, PhaseOpen, Begin, End, PhaseClose, Finish, Stop}

pub more_than_one : (d : ℕ) → 1 < d → nat_le d 1 ≡ false
more_than_one d l = elim (cases_Bool (nat_le d 1)) [ inl e ↦ let x : d ≤ 1 = leb-true _ _ e in absurd (omega arith) | inr e ↦ e ]

-- ---- an End names the tasks that its tick has taken, each once
module _ (n : ℕ) where
  ran_count : (rec : Recorded) (given : ℕ → Outcome) (f : Flat) (ts : List Task) → count_by (λ (x : Ran). nat_eq x.number n) (outcomes rec given f ts) ≡ count_by (λ (t : Task). nat_eq t.number n) ts
  ran_count rec given f [] = refl
  ran_count rec given f (t ∷ ts) =
      let g = act rec f (plain_of t.action) in
      let o : Ran = record { number = t.number; outcome = outcome_of rec f (given t.number) (plain_of t.action) } in
      let a = count_by-cons (λ (x : Ran). nat_eq x.number n) o (outcomes rec given g ts) in
      let b = count_by-cons (λ (x : Task). nat_eq x.number n) t ts in
      let c = ran_count rec given g ts in omega arith

  taken_count : (r k : ℕ) (o : Option Job) → count_by (λ (t : Task). nat_eq t.number n) (taken_task r k o) ≡ cond (nat_eq k n && is_taken r o) 1 0
  taken_count r k None = elim (cases_Bool (nat_eq k n)) [ inl e ↦ rw e refl | inr e ↦ rw e refl ]
  taken_count r k (Some j) = elim (cases_Bool (nat_eq j.taker r)) [
    | inl m ↦ elim (cases_Bool (nat_eq k n)) [ inl e ↦ rw (m, e) refl | inr e ↦ rw (m, e) refl ]
    | inr m ↦ elim (cases_Bool (nat_eq k n)) [ inl e ↦ rw (m, e) refl | inr e ↦ rw (m, e) refl ]
  ]

  due_none : (w : World) (r m : ℕ) → m ≤ n → count_by (λ (t : Task). nat_eq t.number n) (due_below w r m) ≡ 0
  unfolding due_below
  due_none w r zero l = refl
  due_none w r (suc m) l =
      let a = count_by-append (λ (t : Task). nat_eq t.number n) (due_below w r m) (taken_task r m (w.jobs m)) in
      let z : nat_eq m n ≡ false = ne_eqb _ _ (λ e. omega arith) in
      let b = rw z at (taken_count r m (w.jobs m)) in
      let c = due_none w r m (omega arith) in omega arith

  due_once : (w : World) (r m : ℕ) → n < m → count_by (λ (t : Task). nat_eq t.number n) (due_below w r m) ≡ cond (is_taken r (w.jobs n)) 1 0
  unfolding due_below
  due_once w r zero l = absurd (omega arith)
  due_once w r (suc m) l =
      let a = count_by-append (λ (t : Task). nat_eq t.number n) (due_below w r m) (taken_task r m (w.jobs m)) in
      elim (cases_eq m n) [
        | inl e ↦ let z : nat_eq n n ≡ true = eq-eqb _ _ refl in
            let b : count_by (λ (t : Task). nat_eq t.number n) (taken_task r m (w.jobs m)) ≡ cond (is_taken r (w.jobs n)) 1 0 = rw e (rw z at (taken_count r n (w.jobs n))) in
            let c = due_none w r m (omega arith) in omega arith
        | inr e ↦ let z : nat_eq m n ≡ false = ne_eqb _ _ e in
            let b = rw z at (taken_count r m (w.jobs m)) in
            let c = due_once w r m (omega arith) in omega arith
      ]

  -- 1 where the event is the End of the tick that has the task
  abbrev pub done_by : Event → Option Job → ℕ
  done_by (End worker r tick ran answers) o = cond (is_taken r o) 1 0
  done_by _ o = 0

  names_ended : (w : World) (r : ℕ) (ran : List Ran) → n < w.next_job → ran ≡ (ticked w r ran).ran → count_by (λ (x : Ran). nat_eq x.number n) ran ≡ cond (is_taken r (w.jobs n)) 1 0
  unfolding flat_tick
  names_ended w r ran l e = ap (count_by (λ (x : Ran). nat_eq x.number n)) e ∙ ran_count (w.recorded r) (outcome_in ran) w.flat (due w r) ∙ due_once w r w.next_job l

  pub ended_new : (w : World) (r : ℕ) (ran : List Ran) → w.next_job ≤ n → ran ≡ (ticked w r ran).ran → count_by (λ (x : Ran). nat_eq x.number n) ran ≡ 0
  unfolding flat_tick
  ended_new w r ran l e = ap (count_by (λ (x : Ran). nat_eq x.number n)) e ∙ ran_count (w.recorded r) (outcome_in ran) w.flat (due w r) ∙ due_none w r w.next_job l

  pub names_is : (w : World) (e : Event) → n < w.next_job → Allowed w e → names n e ≡ done_by e (w.jobs n)
  names_is w (Load caller c answer) l a = refl
  names_is w (Unload caller c answer) l a = refl
  names_is w (Post caller c d x answer) l a = refl
  names_is w (PhaseOpen k) l a = refl
  names_is w (Begin worker r) l a = refl
  names_is w (End worker r tick ran answers) l a = names_ended w r ran l a.3
  names_is w PhaseClose l a = refl
  names_is w Finish l a = refl
  names_is w (Stop caller) l a = refl
