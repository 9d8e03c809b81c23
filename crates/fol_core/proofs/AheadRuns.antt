-- Runs that are ahead of a history, along one entry more of it, one more early Begin, and an early Begin that is recorded.
use Rattle.std.proofs.Common.{◌≡◌, ℕ, suc, zero, ◌+◌, ◌-◌, ◌≤◌, ◌<◌, refl, sym, ◌∙◌, ap, arith, Bool, true, false, inl, inr, ◌||◌, List, [], ◌∷◌, ◌++◌, length}
use Rattle.std.proofs.lemmas.List.{append-nil}
use Rattle.std.proofs.lemmas.Bool.{cases_eq, cases_lt, false_from_ne_true, or_right}
use Rattle.fol_model.specs.declared.places.ChunkPos.{ChunkPos}
use Rattle.fol_model.specs.declared.openings.Opening.{Opening}
use Rattle.fol_model.specs.declared.events.Entry.{Entry}
use Rattle.fol_model.specs.declared.events.Event.{Event}
use Rattle.fol_model.specs.declared.events.Event.TheVariants.{Load, Unload, Post, PhaseOpen, Begin, End, PhaseClose, Finish, Stop}
use Rattle.fol_model.specs.ActionStep.{at_id}
use Rattle.fol_model.specs.Begin.{begin}
use Rattle.fol_model.specs.Counting.{count_below}
use Rattle.fol_model.specs.GridNumbers.{IsGrid}
use Rattle.fol_model.specs.QueuedTask.{begun}
use Rattle.fol_model.specs.Run.{Allowed, Run, after, world}
use Rattle.fol_model.specs.World.{World, start}
use Rattle.fol_laws.specs.Growth.{answered, answers_in}
use Rattle.fol_laws.proofs.CountBelow.{count_less, count_next}
use Rattle.fol_laws.proofs.FunctionsChanged.{at_here, at_other}
use Rattle.fol_laws.proofs.LongerRuns.{run_more, world_more}
use Rattle.fol_laws.proofs.SoundState.{job_below}
use Rattle.fol_laws.proofs.WholeRuns.{Good, good_run}
use Rattle.fol_early_laws.specs.EarlyBegins.{ahead_of, IsAhead, own_event, SparesAll}
use Rattle.fol_early_laws.proofs.EarlyEvents.{comes_early, finished_same, is_met, met}
use Rattle.fol_core.specs.Ahead.{AheadRun, Goes}
use Rattle.fol_world.specs.Hands.{owner_of, since, went}
use Rattle.fol_core.proofs.AheadHands.{counted_was, goes_after}
use Rattle.fol_core.proofs.BegunHands.{went_else, went_here}
use Rattle.fol_world.proofs.Longer.{answered_more, length_more, since_more}
use Rattle.fol_world.proofs.SinceRuns.{since_most}

pub good_at : (o : Opening) (h : List Entry) → IsGrid o.grid → Run o h → Good o (world o h)
good_at o h ok run = good_run o h [] ok (rw (append-nil h) run)

-- ---- counts of marks
count_more : (p : ℕ → Bool) (n k : ℕ) → ((i : ℕ) → n ≤ i → p i ≡ false) → count_below p (n + k) ≡ count_below p n
count_more p n zero h = ap (count_below p) (omega arith)
count_more p n (suc k) h = ap (count_below p) (omega arith) ∙ count_next p (n + k) (h (n + k) (omega arith)) ∙ count_more p n k h

pub count_on : (p : ℕ → Bool) (n m : ℕ) → n ≤ m → ((i : ℕ) → n ≤ i → p i ≡ false) → count_below p m ≡ count_below p n
count_on p n m l h = ap (count_below p) (let e : m ≡ n + (m - n) = omega arith in e) ∙ count_more p n (m - n) h

-- up to any number above which there is none
pub count_any : (p : ℕ → Bool) (n m : ℕ) → ((i : ℕ) → n ≤ i → p i ≡ false) → ((i : ℕ) → m ≤ i → p i ≡ false) → count_below p m ≡ count_below p n
count_any p n m h k = elim (cases_lt n m) [ inl l ↦ count_on p n m (omega arith) h | inr l ↦ sym (count_on p m n l k) ]

own_answers : (x : World) (e : Event) → answers_in (own_event x e) ≡ answers_in e
own_answers x (Load caller c answer) = refl
own_answers x (Unload caller c answer) = refl
own_answers x (Post caller c d action answer) = refl
own_answers x (PhaseOpen n) = refl
own_answers x (Begin worker q) = refl
own_answers x (End worker q tick ran accepts) = refl
own_answers x PhaseClose = refl
own_answers x Finish = refl
own_answers x (Stop caller) = refl

-- a region that is marked has its id already
pub none_above : (o : Opening) (w x : World) (p : ℕ → Bool) → Good o w → IsAhead p w x → (i : ℕ) → w.grid.next ≤ i → p i ≡ false
none_above o w x p good is i l = false_from_ne_true (p i) (λ k. let b = good.sound.rules.below_next i (λ d. let r = is.ready i k in cc) in omega arith)

module _ (o : Opening) (h : List Entry) (ok : IsGrid o.grid) (run : Run o h) (p : ℕ → Bool) (a : AheadRun o h p) where
  good : Good o (world o h)
  good = good_at o h ok run

  good_ahead : Good o (world o a.entries)
  good_ahead = good_at o a.entries ok a.run

  -- ---- one entry more
  module _ (e : Entry) (free : (world o h).finished ≡ false) (allowed : Allowed (world o h) e.event) (spares : SparesAll (world o h) p e.event) where
    abbrev pub own_entry : Entry
    own_entry = record { by = e.by; event = own_event (world o a.entries) e.event }

    both : Allowed (world o a.entries) (own_event (world o a.entries) e.event) × IsAhead p (after (world o h) e.event) (after (world o a.entries) (own_event (world o a.entries) e.event))
    both = met o (world o h) (world o a.entries) p good a.is e.event allowed spares

    pub allowed_ahead : Allowed (world o a.entries) (own_event (world o a.entries) e.event)
    allowed_ahead = both.0

    answers_same : answers_in (own_event (world o a.entries) e.event) ≡ answers_in e.event
    answers_same = own_answers (world o a.entries) e.event

    run_then : Run o (h ++ e ∷ [])
    run_then = run_more (start o) h e run free allowed

    is_then : IsAhead p (world o (h ++ e ∷ [])) (world o (a.entries ++ own_entry ∷ []))
    is_then = rw (world_more (start o) h e, world_more (start o) a.entries own_entry) both.1

    count_then : count_below p (world o (h ++ e ∷ [])).grid.next ≡ count_below p (world o h).grid.next
    count_then = count_any p (world o h).grid.next (world o (h ++ e ∷ [])).grid.next (none_above o (world o h) (world o a.entries) p good a.is)
        (none_above o (world o (h ++ e ∷ [])) (world o (a.entries ++ own_entry ∷ [])) p (good_at o (h ++ e ∷ []) ok run_then) is_then)

    pub event_run : AheadRun o (h ++ e ∷ []) p
    event_run = record {
      entries = a.entries ++ own_entry ∷ [];
      run = run_more (start o) a.entries own_entry a.run (finished_same p (world o h) (world o a.entries) a.is ∙ free) allowed_ahead;
      is = is_then;
      goes = rw (world_more (start o) h e, world_more (start o) a.entries own_entry, since_more (start o) (λ r. 0) h e, since_more (start o) (λ r. 0) a.entries own_entry)
          (goes_after o (world o h) (world o a.entries) p good good_ahead a.is (since o h) (since o a.entries) (since_most o h) (since_most o a.entries) a.goes e.event allowed spares);
      size = omega (arith, a.size, length_more h e, answered_more h e, length_more a.entries own_entry, answered_more a.entries own_entry, answers_same, count_then);
    }

    pub event_entries : a.entries ++ own_entry ∷ [] ≡ event_run.entries
    unfolding event_run
    event_entries = refl

  -- ---- one more early Begin
  module _ (r : ℕ) (free : p r ≡ false) (going : (world o h).finished ≡ false) (allowed : Allowed (world o h) (Begin 0 r)) where
    abbrev pub early_entry : Entry
    early_entry = record { by = 0; event = Begin 0 r }

    early : Allowed (world o a.entries) (Begin 0 r) × IsAhead (at_id p r true) (world o h) (after (world o a.entries) (Begin 0 r))
    early = comes_early (world o h) (world o a.entries) p 0 r a.is free allowed

    given : 0 < r
    given = good.sound.rules.given r (λ d. let b = allowed.0 in cc)

    below : r < (world o h).grid.next
    below = good.sound.rules.below_next r (λ d. let b = allowed.0 in cc)

    next_same : (world o a.entries).next_job ≡ (world o h).next_job
    unfolding ahead_of
    next_same = ap (λ (v : World). v.next_job) a.is.same

    owner_same : (c : ChunkPos) → owner_of (world o a.entries).grid c ≡ owner_of (world o h).grid c
    unfolding ahead_of
    owner_same c = ap (λ (v : World). owner_of v.grid c) a.is.same

    goes_early : Goes (at_id p r true) (world o h) (begun (world o a.entries) 0 r) (since o h) (at_id (since o a.entries) r (world o a.entries).next_job)
    unfolding begun begin
    goes_early n j e z = elim (cases_eq (owner_of (world o h).grid j.chunk) r) [
      | inl d ↦ let l : n < (world o a.entries).next_job = (let x = next_same in let y = job_below n (world o h) j good.sound e in omega arith) in
          let one = went_here (world o a.entries).grid r early.0.0 given (since o a.entries) j.chunk n (world o a.entries).next_job (owner_same j.chunk ∙ d) l in
          let on : at_id p r true (owner_of (world o h).grid j.chunk) ≡ true = ap (at_id p r true) d ∙ at_here p r true in
          one ∙ sym (ap (λ b. went (world o h).grid (since o h) j.chunk n || b) on ∙ or_right (went (world o h).grid (since o h) j.chunk n) true refl)
      | inr d ↦ went_else (world o a.entries).grid r early.0.0 given (since o a.entries) j.chunk n (world o a.entries).next_job (λ y. d (sym (owner_same j.chunk) ∙ y))
          ∙ a.goes n j e z ∙ ap (λ b. went (world o h).grid (since o h) j.chunk n || b) (sym (at_other p r true (owner_of (world o h).grid j.chunk) d))
    ]

    one_more : count_below (at_id p r true) (world o h).grid.next ≡ 1 + count_below p (world o h).grid.next
    one_more = let on = at_here p r true in count_less (at_id p r true) p (world o h).grid.next r below free (λ k d. at_other p r true k d) ∙ rw on refl

    pub early_run : AheadRun o h (at_id p r true)
    early_run = record {
      entries = a.entries ++ early_entry ∷ [];
      run = run_more (start o) a.entries early_entry a.run (finished_same p (world o h) (world o a.entries) a.is ∙ going) early.0;
      is = rw (world_more (start o) a.entries early_entry) early.1;
      goes = rw (world_more (start o) a.entries early_entry, since_more (start o) (λ n. 0) a.entries early_entry) goes_early;
      size = omega (arith, a.size, length_more a.entries early_entry, answered_more a.entries early_entry, one_more);
    }

    pub early_entries : a.entries ++ early_entry ∷ [] ≡ early_run.entries
    unfolding early_run
    early_entries = refl

  -- ---- the Begin of a marked region is recorded
  module _ (r by worker : ℕ) (marked : p r ≡ true) (going : (world o h).finished ≡ false) (on : (world o h).stopped ≡ false) where
    abbrev pub late_entry : Entry
    late_entry = record { by = by; event = Begin worker r }

    pub late_allowed : Allowed (world o h) (Begin worker r)
    late_allowed = (a.is.ready r marked, a.is.owes r marked, on)

    given_then : 0 < r
    given_then = good.sound.rules.given r (λ d. let b = a.is.ready r marked in cc)

    below_then : r < (world o h).grid.next
    below_then = good.sound.rules.below_next r (λ d. let b = a.is.ready r marked in cc)

    next_begun : (begun (world o h) worker r).grid.next ≡ (world o h).grid.next
    unfolding begun begin
    next_begun = refl

    goes_late : Goes (at_id p r false) (begun (world o h) worker r) (world o a.entries) (at_id (since o h) r (world o h).next_job) (since o a.entries)
    unfolding begun begin
    goes_late n j e z =
        let was = counted_was (world o h).grid r ((world o h).jobs n) j e z in
        let c = was.chunk in
        let now : went (world o a.entries).grid (since o a.entries) j.chunk n ≡ (went (world o h).grid (since o h) j.chunk n || p (owner_of (world o h).grid j.chunk)) = rw c at (a.goes n was.job was.is was.queued) in
        elim (cases_eq (owner_of (world o h).grid j.chunk) r) [
          | inl d ↦ let here = went_here (world o h).grid r (a.is.ready r marked) given_then (since o h) j.chunk n (world o h).next_job d (job_below n (world o h) was.job good.sound was.is) in
              now ∙ ap (λ u. went (world o h).grid (since o h) j.chunk n || p u) d ∙ ap (λ b. went (world o h).grid (since o h) j.chunk n || b) marked ∙ or_right (went (world o h).grid (since o h) j.chunk n) true refl
              ∙ sym (ap (λ b. b || at_id p r false (owner_of (world o h).grid j.chunk)) here)
          | inr d ↦ now ∙ sym (ap (λ b. b || at_id p r false (owner_of (world o h).grid j.chunk)) (went_else (world o h).grid r (a.is.ready r marked) given_then (since o h) j.chunk n (world o h).next_job d)
              ∙ ap (λ b. went (world o h).grid (since o h) j.chunk n || b) (at_other p r false (owner_of (world o h).grid j.chunk) d))
        ]

    one_less : count_below p (world o h).grid.next ≡ 1 + count_below (at_id p r false) (world o h).grid.next
    one_less = count_less p (at_id p r false) (world o h).grid.next r below_then (at_here p r false) (λ k d. sym (at_other p r false k d)) ∙ rw marked refl

    size_late : length (h ++ late_entry ∷ []) + answered (h ++ late_entry ∷ []) ≡ length h + answered h + 1
    size_late = omega (arith, length_more h late_entry, answered_more h late_entry)

    pub late_run : AheadRun o (h ++ late_entry ∷ []) (at_id p r false)
    late_run = record {
      entries = a.entries;
      run = a.run;
      is = rw (world_more (start o) h late_entry) (is_met (world o h) (world o a.entries) p worker r a.is marked);
      goes = rw (world_more (start o) h late_entry, since_more (start o) (λ n. 0) h late_entry) goes_late;
      size = rw (world_more (start o) h late_entry, next_begun) (omega (arith, a.size, size_late, one_less));
    }

    pub late_entries : a.entries ≡ late_run.entries
    unfolding late_run
    late_entries = refl
