-- What becomes of a task along a run: it is queued, then a tick has it, then it is over.
use Rattle.std.proofs.Common.{◌≡◌, ℕ, ◌-◌, ◌≤◌, ◌<◌, refl, sym, ◌∙◌, ap, arith, true, false, cond, inl, inr, List, [], ◌∷◌, ◌++◌}
use Rattle.std.specs.Prelude.{nat_eq, nat_le, Option, Some, None}
use Rattle.std.proofs.lemmas.Bool.{cases_Bool, eqb-false, eq-eqb, ne_eqb}
use Rattle.fol_model.specs.declared.places.ChunkPos.{ChunkPos}
use Rattle.fol_model.specs.Geometry.{section_of}
use Rattle.fol_model.specs.World.{World}
use Rattle.fol_model.specs.Job.{Job, queued}
use Rattle.fol_model.specs.QueuedTask.{counted_down}
use Rattle.fol_model.specs.End.{answers}
use Rattle.fol_model.specs.Run.{after, after_all, Allowed, RunFrom}
use Rattle.fol_laws.proofs.SoundState.{SoundWorld, job_below}
use Rattle.fol_model.specs.OpenTick.{is_end, NoEnd}
use Rattle.fol_model.specs.DueRule.{begins_on, begins, names, named, taken_by}
use Rattle.fol_model.specs.declared.events.Accept.{Accept}
use Rattle.fol_model.specs.declared.actions.Action.{Action}
use Rattle.fol_model.specs.declared.tasks.Ran.{Ran}
use Rattle.fol_model.specs.declared.events.Event.{Event}
use Rattle.fol_model.specs.declared.events.Event.TheVariants.{Load, Unload, Post, PhaseOpen, Begin, End, PhaseClose, Finish, Stop}
use Rattle.fol_model.specs.declared.events.Entry.{Entry}
use Rattle.fol_laws.proofs.TaskFates.{fated, next_fate}
use Rattle.fol_laws.proofs.SoundRuns.{after_keeps}
use Rattle.fol_laws.proofs.DueNames.{done_by, names_is, ended_new, more_than_one}

module _ (n : ℕ) where
  -- ---- a queued task
  module _ (c : ChunkPos) (a : Action) where
    same_rest : (d e : ℕ) → d ≡ e → ◌≡◌ {A = Option Job} (Some (queued c d a)) (Some (queued c e a))
    same_rest d e h = ap (λ (k : ℕ). Some (queued c k a)) h

    -- what an event makes of it, where it is not yet taken
    fate_queued : (w : World) (e : Event) (d : ℕ) → SoundWorld w → Allowed w e → cond (begins_on w c e) 1 0 < d
        → next_fate w e (Some (queued c d a)) ≡ Some (queued c (d - cond (begins_on w c e) 1 0) a)
    fate_queued w (Load caller q answer) d s h l = same_rest d _ (omega arith)
    fate_queued w (Unload caller q answer) d s h l = same_rest d _ (omega arith)
    fate_queued w (Post caller q k x answer) d s h l = same_rest d _ (omega arith)
    fate_queued w (PhaseOpen k) d s h l = same_rest d _ (omega arith)
    fate_queued w (Begin worker r) d s h l = elim (cases_Bool (nat_eq (w.grid.owner (section_of w.grid.grid c)) r)) [
      | inl e ↦ let k = rw e at l in let m : nat_le d 1 ≡ false = more_than_one d k in rw (e, m) refl
      | inr e ↦ rw e (same_rest d _ (omega arith))
    ]
    fate_queued w (End worker r tick ran answers) d s h l =
        let p = s.rules.given r (λ x. let t = h.0 in cc) in
        let z : nat_eq 0 r ≡ false = ne_eqb _ _ (λ x. omega arith) in rw z (same_rest d _ (omega arith))
    fate_queued w PhaseClose d s h l = same_rest d _ (omega arith)
    fate_queued w Finish d s h l = same_rest d _ (omega arith)
    fate_queued w (Stop caller) d s h l = same_rest d _ (omega arith)

    done_queued : (w : World) (e : Event) (d : ℕ) → SoundWorld w → Allowed w e → done_by n e (Some (queued c d a)) ≡ 0
    done_queued w (Load caller q answer) d s h = refl
    done_queued w (Unload caller q answer) d s h = refl
    done_queued w (Post caller q k x answer) d s h = refl
    done_queued w (PhaseOpen k) d s h = refl
    done_queued w (Begin worker r) d s h = refl
    done_queued w (End worker r tick ran answers) d s h =
        let p = s.rules.given r (λ x. let t = h.0 in cc) in
        let z : nat_eq 0 r ≡ false = ne_eqb _ _ (λ x. omega arith) in rw z refl
    done_queued w PhaseClose d s h = refl
    done_queued w Finish d s h = refl
    done_queued w (Stop caller) d s h = refl

    pub waits_along : (w : World) (xs ys : List Entry) (d : ℕ) → SoundWorld w → RunFrom w (xs ++ ys) → w.jobs n ≡ Some (queued c d a) → begins w c xs < d
        → ((after_all w xs).jobs n ≡ Some (queued c (d - begins w c xs) a)) × (named n xs ≡ 0)
    waits_along w [] ys d s run q l = (q ∙ same_rest d _ (omega arith), refl)
    waits_along w (e ∷ xs) ys d s run q l =
        let m = job_below n w (queued c d a) s q in
        let f = (fated w e.event).jobs n m ∙ ap (next_fate w e.event) q ∙ fate_queued w e.event d s run.1 (omega arith) in
        let z = names_is n w e.event m run.1 ∙ ap (done_by n e.event) q ∙ done_queued w e.event d s run.1 in
        let i = waits_along (after w e.event) xs ys (d - cond (begins_on w c e.event) 1 0) (after_keeps w e.event s run.1) run.2 f (omega arith) in
        (i.0 ∙ same_rest _ _ (omega arith), omega (arith, i.1))

    -- ---- a task that a tick has taken
    pub begun_taken : (w : World) (worker r : ℕ) → SoundWorld w → w.jobs n ≡ Some (queued c 1 a) → w.grid.owner (section_of w.grid.grid c) ≡ r → (after w (Begin worker r)).jobs n ≡ Some (taken_by c a r)
    begun_taken w worker r s q o =
        let m = job_below n w (queued c 1 a) s q in
        let z : nat_eq (w.grid.owner (section_of w.grid.grid c)) r ≡ true = eq-eqb _ _ o in
        (fated w (Begin worker r)).jobs n m ∙ ap (counted_down w.grid r) q ∙ rw z refl

    fate_taken : (w : World) (e : Event) (r : ℕ) → 0 < r → is_end r e ≡ false → next_fate w e (Some (taken_by c a r)) ≡ Some (taken_by c a r)
    fate_taken w (Load caller q answer) r p h = refl
    fate_taken w (Unload caller q answer) r p h = refl
    fate_taken w (Post caller q k x answer) r p h = refl
    fate_taken w (PhaseOpen k) r p h = refl
    fate_taken w (Begin worker q) r p h = let z : nat_eq r 0 ≡ false = ne_eqb _ _ (λ x. omega arith) in rw z refl
    fate_taken w (End worker q tick ran answers) r p h = let z : nat_eq r q ≡ false = ne_eqb _ _ (λ x. eqb-false q r h (sym x)) in rw z refl
    fate_taken w PhaseClose r p h = refl
    fate_taken w Finish r p h = refl
    fate_taken w (Stop caller) r p h = refl

    done_taken : (e : Event) (r : ℕ) → is_end r e ≡ false → done_by n e (Some (taken_by c a r)) ≡ 0
    done_taken (Load caller q answer) r h = refl
    done_taken (Unload caller q answer) r h = refl
    done_taken (Post caller q k x answer) r h = refl
    done_taken (PhaseOpen k) r h = refl
    done_taken (Begin worker q) r h = refl
    done_taken (End worker q tick ran answers) r h = let z : nat_eq r q ≡ false = ne_eqb _ _ (λ x. eqb-false q r h (sym x)) in rw z refl
    done_taken PhaseClose r h = refl
    done_taken Finish r h = refl
    done_taken (Stop caller) r h = refl

    pub taken_along : (w : World) (ms ys : List Entry) (r : ℕ) → SoundWorld w → 0 < r → RunFrom w (ms ++ ys) → NoEnd r ms → w.jobs n ≡ Some (taken_by c a r)
        → ((after_all w ms).jobs n ≡ Some (taken_by c a r)) × (named n ms ≡ 0)
    taken_along w [] ys r s p run ne q = (q, refl)
    taken_along w (e ∷ ms) ys r s p run ne q =
        let m = job_below n w (taken_by c a r) s q in
        let f = (fated w e.event).jobs n m ∙ ap (next_fate w e.event) q ∙ fate_taken w e.event r p ne.0 in
        let z = names_is n w e.event m run.1 ∙ ap (done_by n e.event) q ∙ done_taken e.event r ne.0 in
        let i = taken_along (after w e.event) ms ys r (after_keeps w e.event s run.1) p run.2 ne.1 f in
        (i.0, omega (arith, i.1))

    pub ended_names : (w : World) (e : Event) (k r tick : ℕ) (ran : List Ran) (ans : List Accept) → SoundWorld w → Allowed w e → e ≡ End k r tick ran ans → w.jobs n ≡ Some (taken_by c a r)
        → (names n e ≡ 1) × ((after w e).jobs n ≡ None)
    ended_names w e k r tick ran ans s h is q =
        let m = job_below n w (taken_by c a r) s q in
        let z : nat_eq r r ≡ true = eq-eqb _ _ refl in
        let one : done_by n (End k r tick ran ans) (Some (taken_by c a r)) ≡ 1 = rw z refl in
        let gone : next_fate w (End k r tick ran ans) (Some (taken_by c a r)) ≡ None = rw z refl in (
          names_is n w e m h ∙ ap (λ (x : Event). done_by n x (w.jobs n)) is ∙ ap (done_by n (End k r tick ran ans)) q ∙ one,
          (fated w e).jobs n m ∙ ap (λ (x : Event). next_fate w x (w.jobs n)) is ∙ ap (next_fate w (End k r tick ran ans)) q ∙ gone,
        )

  -- ---- a task that is over
  fate_over : (w : World) (e : Event) → next_fate w e None ≡ None
  fate_over w (Load caller q answer) = refl
  fate_over w (Unload caller q answer) = refl
  fate_over w (Post caller q k x answer) = refl
  fate_over w (PhaseOpen k) = refl
  fate_over w (Begin worker q) = refl
  fate_over w (End worker q tick ran answers) = refl
  fate_over w PhaseClose = refl
  fate_over w Finish = refl
  fate_over w (Stop caller) = refl

  done_over : (e : Event) → done_by n e None ≡ 0
  done_over (Load caller q answer) = refl
  done_over (Unload caller q answer) = refl
  done_over (Post caller q k x answer) = refl
  done_over (PhaseOpen k) = refl
  done_over (Begin worker q) = refl
  done_over (End worker q tick ran answers) = refl
  done_over PhaseClose = refl
  done_over Finish = refl
  done_over (Stop caller) = refl

  pub over_along : (w : World) (zs : List Entry) → SoundWorld w → RunFrom w zs → n < w.next_job → w.jobs n ≡ None → named n zs ≡ 0
  over_along w [] s run m q = refl
  over_along w (e ∷ zs) s run m q =
      let g = (fated w e.event).next in
      let f = (fated w e.event).jobs n m ∙ ap (next_fate w e.event) q ∙ fate_over w e.event in
      let z = names_is n w e.event m run.1 ∙ ap (done_by n e.event) q ∙ done_over e.event in
      let i = over_along (after w e.event) zs (after_keeps w e.event s run.1) run.2 (omega arith) f in omega arith

-- ---- a number that was not given yet is named by no End
module _ (n : ℕ) where
  pub names_fresh : (w : World) (e : Event) → w.next_job ≤ n → Allowed w e → names n e ≡ 0
  names_fresh w (Load caller c answer) l a = refl
  names_fresh w (Unload caller c answer) l a = refl
  names_fresh w (Post caller c d x answer) l a = refl
  names_fresh w (PhaseOpen k) l a = refl
  names_fresh w (Begin worker r) l a = refl
  names_fresh w (End worker r tick ran answers) l a = ended_new n w r ran l a.3
  names_fresh w PhaseClose l a = refl
  names_fresh w Finish l a = refl
  names_fresh w (Stop caller) l a = refl

  next_along : (w : World) (es : List Entry) → w.next_job ≤ (after_all w es).next_job
  next_along w [] = omega arith
  next_along w (e ∷ es) = omega (arith, (fated w e.event).next, next_along (after w e.event) es)

  pub named_before : (w : World) (es rest : List Entry) → RunFrom w (es ++ rest) → (after_all w es).next_job ≤ n → named n es ≡ 0
  named_before w [] rest run l = refl
  named_before w (e ∷ es) rest run l =
      let m = next_along (after w e.event) es in
      let k = (fated w e.event).next in
      let a = names_fresh w e.event (omega arith) run.1 in
      let b = named_before (after w e.event) es rest run.2 l in omega arith
