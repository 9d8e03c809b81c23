-- A quiet tick passes while regions are prepared.
use Rattle.std.proofs.Common.{◌≡◌, ℕ, ◌+◌, ◌≤◌, ◌^◌, refl, sym, ◌∙◌, ap, subst, append_assoc, Bool, true, false, List, [], ◌∷◌, ◌++◌, ◌||◌}
use Rattle.std.specs.Prelude.{nat_eq}
use Rattle.std.proofs.lemmas.Bool.{eq-eqb, ne_eqb, or_parts, true≢false}
use Rattle.fol_model.specs.declared.events.Accept.{Accept}
use Rattle.fol_model.specs.declared.events.Entry.{Entry}
use Rattle.fol_model.specs.declared.events.Event.TheVariants.{Begin, End}
use Rattle.fol_model.specs.declared.openings.Opening.{Opening}
use Rattle.fol_model.specs.declared.regions.State.TheVariants.{Ticking}
use Rattle.fol_model.specs.declared.tasks.Wish.{Wish}
use Rattle.fol_model.specs.End.{answers, run_down, ticked}
use Rattle.fol_model.specs.FlatTick.{FlatEnd}
use Rattle.fol_model.specs.declared.tasks.Ran.{Ran}
use Rattle.fol_model.specs.Begin.{begin}
use Rattle.fol_model.specs.QueuedTask.{begun}
use Rattle.fol_model.specs.Run.{Allowed, RunFrom, after, after_all, world}
use Rattle.fol_model.specs.World.{World, start}
use Rattle.fol_laws.proofs.FunctionsChanged.{at_here}
use Rattle.fol_laws.proofs.LongerRuns.{world_more}
use Rattle.fol_laws.specs.LateBegin.{touches}
use Rattle.fol_laws.proofs.WholeRuns.{Good}
use Rattle.fol_early_laws.specs.EarlyBegins.{IsAhead, SparesAll}
use Rattle.fol_early_laws.proofs.EarlyEvents.{counter_met, tick_same, ticked_met, ticking_off}
use Rattle.fol_regions.specs.Table.{grid_state}
use Rattle.fol_store.specs.Stock.{bag_of}
use Rattle.fol_world.specs.declared.tables.Course.{Course}
use Rattle.fol_world.specs.declared.tables.Tables.{Tables}
use Rattle.fol_core.specs.Ahead.{RunsAhead, StandsAhead}
use Rattle.fol_core.specs.Answers.{is_over}
use Rattle.fol_world.specs.Agenda.{owes}
use Rattle.fol_world.specs.Quiet.{CanPass, PassesTick}
use Rattle.fol_core.specs.Quiet.{quiet_tick}
use Rattle.fol_world.specs.Stands.{Stands}
use Rattle.fol_core.proofs.Ahead.{event_runs, over_is, runs_entries}
use Rattle.fol_core.proofs.AheadBegins.{begin_allowed, begin_spares}
use Rattle.fol_core.proofs.AheadRuns.{good_at}
use Rattle.fol_core.proofs.QuietKept.{counter_is, quiet_counts, quiet_kept}

none_answered : (w : World) (xs : List Wish) → answers w xs ≡ [] → xs ≡ []
none_answered w [] e = refl
none_answered w (x ∷ xs) e = absurd (cc)

-- an End without tasks and wishes that is allowed ahead is allowed after the history
module _ (o : Opening) (v y : World) (p : ℕ → Bool) (g : Good o v) (a : IsAhead p v y) (q : ℕ) (ticks : v.grid.state q ≡ Ticking) (worker tick : ℕ) (seat : worker ≡ v.worker q) (ok : Allowed y (End (y.worker q) q tick [] [])) where
  same : ticked y q [] ≡ ticked v q []
  same = ticked_met o v y p g a q ticks []

  none : (ticked v q []).wishes ≡ []
  none = sym (ap (λ (t : FlatEnd). t.wishes) same) ∙ none_answered (run_down y q []) (ticked y q []).wishes (sym ok.4)

  pub quiet_allowed : Allowed v (End worker q tick [] [])
  quiet_allowed = (
    ticks,
    seat,
    ok.2 ∙ ap (λ n. n + 1) (counter_met o v y p g a q ticks),
    ok.3 ∙ ap (λ (t : FlatEnd). t.ran) same,
    sym (ap (answers (run_down v q [])) none),
  )

  pub quiet_spares : SparesAll v p (End worker q tick [] [])
  quiet_spares r k =
      let e : nat_eq q r ≡ false = ne_eqb q r (λ e. true≢false (sym k ∙ ap p (sym e) ∙ ticking_off o v y p g a q ticks)) in
      let n = none in rw (e, n) refl

-- the last entry of a run was allowed
last_allowed : (w : World) (es : List Entry) (e : Entry) → RunFrom w (es ++ e ∷ []) → Allowed (after_all w es) e.event
last_allowed w [] e run = run.1
last_allowed w (x ∷ es) e run = last_allowed (after w x.event) es e run.2

-- the counter of a region that owes a tick
pub counter_now : (o : Opening) (h : List Entry) (p : ℕ → Bool) (t : Tables) (s : StandsAhead o h p t) (id : ℕ) → owes (grid_state t.regions) (bag_of t.store) id ≡ true → (bag_of t.store id).tick ≡ (world o h).tick id
counter_now o h p t s id owing = counter_is o s.runs.ahead.entries t s.stands id owing ∙ tick_same p (world o h) (world o s.runs.ahead.entries) s.runs.ahead.is id

module _ (o : Opening) (h : List Entry) (p : ℕ → Bool) (t : Tables) (s : StandsAhead o h p t) (id : ℕ) (quiet : CanPass (grid_state t.regions) t.store id) (u : Tables) (passes : PassesTick t u id) (worker : ℕ)
    (on : (t.course.finished || t.course.stopped) ≡ false) (few : t.course.size + 2 ≤ 2 ^ 50)
    (tick : ℕ) (ran : List Ran) (accepts : List Accept) (told : tick ≡ (bag_of t.store id).tick + 1) (no_ran : ran ≡ []) (no_accepts : accepts ≡ []) where
  abbrev b : Entry
  b = record { by = worker; event = Begin worker id }

  abbrev f : Entry
  f = record { by = worker; event = End worker id tick ran accepts }

  going : is_over (world o h) ≡ false
  going = sym (over_is o h p t s) ∙ on

  allowed_begin : Allowed (world o h) (Begin worker id)
  allowed_begin = begin_allowed o h p t s id quiet.owing worker going

  free : (world o h).finished ≡ false
  free = (or_parts (world o h).finished (world o h).stopped going).0

  first : RunsAhead o (h ++ b ∷ []) p
  first = event_runs o h p s.runs b free allowed_begin (begin_spares o h p t s id quiet.owing worker)

  first_entries : s.runs.ahead.entries ++ b ∷ [] ≡ first.ahead.entries
  unfolding first
  first_entries = runs_entries o h p s.runs b free allowed_begin (begin_spares o h p t s id quiet.owing worker)

  world_then : world o (h ++ b ∷ []) ≡ begun (world o h) worker id
  world_then = world_more (start o) h b

  ticking_begun : (v : World) → (begun v worker id).grid.state id ≡ Ticking
  unfolding begun begin
  ticking_begun v = let k : nat_eq id id ≡ true = eq-eqb id id refl in rw k refl

  worker_begun : (v : World) → worker ≡ (begun v worker id).worker id
  unfolding begun
  worker_begun v = sym (at_here v.worker id worker)

  finished_begun : (v : World) → (begun v worker id).finished ≡ v.finished
  unfolding begun
  finished_begun v = refl

  ticks : (world o (h ++ b ∷ [])).grid.state id ≡ Ticking
  ticks = ap (λ (v : World). v.grid.state id) world_then ∙ ticking_begun (world o h)

  seat : worker ≡ (world o (h ++ b ∷ [])).worker id
  seat = worker_begun (world o h) ∙ sym (ap (λ (v : World). v.worker id) world_then)

  course_then : Course
  course_then = record u.course { size = u.course.size + 1 + 1 }

  kept : Stands o ((s.runs.ahead.entries ++ b ∷ []) ++ f ∷ []) (record u { course = course_then })
  unfolding course_then
  kept = quiet_kept o s.runs.ahead.entries t s.stands id quiet u passes worker on few tick ran accepts told no_ran no_accepts (record u.course { size = u.course.size + 1 }) _ refl refl

  allowed_ahead : Allowed (world o first.ahead.entries) (End worker id tick ran accepts)
  allowed_ahead = subst (λ es. Allowed (world o es) (End worker id tick ran accepts)) first_entries (last_allowed (start o) (s.runs.ahead.entries ++ b ∷ []) f kept.run)

  allowed_own : Allowed (world o first.ahead.entries) (End ((world o first.ahead.entries).worker id) id tick [] [])
  allowed_own = subst (λ k. Allowed (world o first.ahead.entries) (End k id tick [] [])) allowed_ahead.1
      (subst (λ xs. Allowed (world o first.ahead.entries) (End worker id tick [] xs)) no_accepts (subst (λ xs. Allowed (world o first.ahead.entries) (End worker id tick xs accepts)) no_ran allowed_ahead))

  good_first : Good o (world o (h ++ b ∷ []))
  good_first = good_at o (h ++ b ∷ []) first.grid first.run

  allowed_end : Allowed (world o (h ++ b ∷ [])) (End worker id tick ran accepts)
  allowed_end = rw (no_ran, no_accepts) (quiet_allowed o (world o (h ++ b ∷ [])) (world o first.ahead.entries) p good_first first.ahead.is id ticks worker tick seat allowed_own)

  -- what an End tells is not asked by what it touches
  told_apart : (r : ℕ) → touches (world o (h ++ b ∷ [])) r (End worker id tick ran accepts) ≡ touches (world o (h ++ b ∷ [])) r (End worker id tick [] accepts)
  told_apart r = ap (λ (xs : List Ran). touches (world o (h ++ b ∷ [])) r (End worker id tick xs accepts)) no_ran

  spares_end : SparesAll (world o (h ++ b ∷ [])) p (End worker id tick ran accepts)
  spares_end r k = told_apart r ∙ ap (λ (xs : List Accept). touches (world o (h ++ b ∷ [])) r (End worker id tick [] xs)) no_accepts
      ∙ quiet_spares o (world o (h ++ b ∷ [])) (world o first.ahead.entries) p good_first first.ahead.is id ticks worker tick seat allowed_own r k

  free_then : (world o (h ++ b ∷ [])).finished ≡ false
  free_then = ap (λ (v : World). v.finished) world_then ∙ finished_begun (world o h) ∙ free

  own_end : End ((world o first.ahead.entries).worker id) id tick ran accepts ≡ End worker id tick ran accepts
  own_end = ap (λ k. End k id tick ran accepts) (sym allowed_ahead.1)

  second : RunsAhead o ((h ++ b ∷ []) ++ f ∷ []) p
  second = event_runs o (h ++ b ∷ []) p first f free_then allowed_end spares_end

  second_entries : (s.runs.ahead.entries ++ b ∷ []) ++ f ∷ [] ≡ second.ahead.entries
  unfolding second
  second_entries = (λ i. first_entries i ++ (record { by = worker; event = sym own_end i }) ∷ []) ∙ runs_entries o (h ++ b ∷ []) p first f free_then allowed_end spares_end

  pub quiet_ahead : (c d : Course) → c ≡ record u.course { size = u.course.size + 1 } → d ≡ record c { size = c.size + 1 } → StandsAhead o ((h ++ b ∷ []) ++ f ∷ []) p (record u { course = d })
  quiet_ahead c d one two = record {
    runs = second;
    stands = subst (λ es. Stands o es (record u { course = d })) second_entries
        (quiet_kept o s.runs.ahead.entries t s.stands id quiet u passes worker on few tick ran accepts told no_ran no_accepts c d one two);
  }

  tick_is : tick ≡ (world o h).tick id + 1
  tick_is = told ∙ ap (λ n. n + 1) (counter_now o h p t s id quiet.owing)

  counter_then : (world o ((h ++ b ∷ []) ++ f ∷ [])).tick id ≡ (world o h).tick id + 1
  counter_then = sym (tick_same p (world o ((h ++ b ∷ []) ++ f ∷ [])) (world o second.ahead.entries) second.ahead.is id)
      ∙ ap (λ es. (world o es).tick id) (sym second_entries)
      ∙ quiet_counts o s.runs.ahead.entries t s.stands id quiet u passes worker on few tick ran accepts told no_ran no_accepts
      ∙ ap (λ n. n + 1) (tick_same p (world o h) (world o s.runs.ahead.entries) s.runs.ahead.is id)

  pub quiet_history : (h ++ b ∷ []) ++ f ∷ [] ≡ h ++ quiet_tick worker id ((world o h).tick id + 1)
  quiet_history = append_assoc h (b ∷ []) (f ∷ [])
      ∙ (λ i. h ++ b ∷ (record { by = worker; event = End worker id (tick_is i) (no_ran i) (no_accepts i) }) ∷ [])

  pub quiet_then : (world o ((h ++ b ∷ []) ++ f ∷ [])).tick id ≡ (world o h).tick id + 1
  quiet_then = counter_then
