-- A replay whose last event is Finish.
use Rattle.std.proofs.Common.{◌≡◌, ℕ, ◌≤◌, refl, ◌∙◌, ap, arith, true, Some, None, List, [], ◌∷◌, ◌++◌, length, map, take, get_or}
use Rattle.std.specs.Prelude.{◌≢◌, Option, suc, zero}
use Rattle.std.proofs.lemmas.List.{length-map}
use Rattle.fol_model.specs.declared.regions.State.TheVariants.{Ticking}
use Rattle.fol_model.specs.declared.events.Entry.{Entry}
use Rattle.fol_model.specs.declared.events.Event.{Event}
use Rattle.fol_model.specs.declared.events.Event.TheVariants as events
use Rattle.fol_model.specs.Counting.{some_below}
use Rattle.fol_model.specs.Legal.{Legal, WholeTicks, idle, order}
use Rattle.fol_model.specs.Run.{Allowed, after, after_all}
use Rattle.fol_model.specs.World.{World, start}
use Rattle.fol_laws.proofs.AddTarget.{is_ticking-true}
use Rattle.fol_laws.proofs.LongerRuns.{world_more}
use Rattle.fol_laws.proofs.NumbersBelow.{some_below-gives}
use Rattle.fol_core.specs.Answers.{is_ticking_in}
use Rattle.fol_core.specs.Meaning.{world_of}
use Rattle.fol_seat_laws.proofs.Turning.{turns_whole}
use Rattle.fol_check.specs.Asked.{IsAt}
use Rattle.fol_check.specs.Replays.{LastFinishes, is_last}
use Rattle.fol_check.specs.Standing.{Stands}
use Rattle.fol_check.specs.declared.asks.Open.{Open}
use Rattle.fol_check.specs.declared.replay.Replay.{Replay}
use Rattle.fol_check.proofs.CalmEnds.{calm_run}
use Rattle.fol_check.proofs.Following.{last_allowed}

finish_is : (e : Event) → is_last e ≡ true → e ≡ events.Finish
finish_is (events.Load k c a) h = absurd (cc)
finish_is (events.Unload k c a) h = absurd (cc)
finish_is (events.Post k c d x a) h = absurd (cc)
finish_is (events.PhaseOpen n) h = absurd (cc)
finish_is (events.Begin k r) h = absurd (cc)
finish_is (events.End k r t xs ks) h = absurd (cc)
finish_is events.PhaseClose h = absurd (cc)
finish_is events.Finish h = refl
finish_is (events.Stop k) h = absurd (cc)

all_taken : {X : Type 0} (xs : List X) (n : ℕ) → length xs ≤ n → take n xs ≡ xs
all_taken [] zero few = refl
all_taken [] (suc n) few = refl
all_taken (x ∷ xs) zero few = absurd (omega arith)
all_taken (x ∷ xs) (suc n) few = ap (λ ys. x ∷ ys) (all_taken xs n (omega arith))

module _ (s : Replay) (st : Stands s) (last : LastFinishes s.core.history) where
  abbrev w : World
  w = world_of s.core

  abbrev v : World
  v = after_all (start s.core.opening) last.before

  event_is : last.last.event ≡ events.Finish
  event_is = finish_is last.last.event last.finish

  world_is : w ≡ after v events.Finish
  world_is = ap (after_all (start s.core.opening)) last.is ∙ world_more (start s.core.opening) last.before last.last ∙ ap (after v) event_is

  allowed : Allowed v events.Finish
  allowed = let here = last.is in let event = event_is in
      let ok = (last_allowed (start s.core.opening) last.before last.last (rw here at st.run)).1 in rw event at ok

  -- no region ticks
  pub none_ticks : (r : ℕ) → w.grid.state r ≢ Ticking
  none_ticks = calm_run s.core.opening s.core.history st.grid st.run (ap (λ (x : World). x.in_phase) world_is ∙ allowed.0)

  pub no_fault : some_below (is_ticking_in w) w.grid.next ≡ true → ⊥
  no_fault some =
      let r = some_below-gives (is_ticking_in w) w.grid.next some in
      none_ticks r.0 (is_ticking-true (w.grid.state r.0) r.2)

  idle_at : (k : ℕ) (o : Option Open) → IsAt s.core (suc k) o → WholeTicks (suc k) (start s.core.opening) idle s.core.history
  idle_at k None at = turns_whole (suc k) (start s.core.opening) idle s.core.history at.turns
  idle_at k (Some p) at = absurd (none_ticks p.tick.region at.tick.ticks)

  whole : (k : ℕ) → 1 ≤ k → k ≤ 64 → WholeTicks k (start s.core.opening) idle s.core.history
  whole zero low high = absurd (omega arith)
  whole (suc k) low high = idle_at k (get_or s.workers.items k None) (st.workers k (omega arith))

  -- it is a legal history
  pub legal_when_finished : Legal s.core.opening s.script 64 s.core.history
  legal_when_finished =
      let all = st.done (ap (λ (x : World). x.finished) world_is) in
      let event = event_is in
      record {
        run = st.run;
        commands = st.commands ∙ all_taken (map order s.script) s.next (let many = length-map s.script order in omega arith);
        workers = st.callers;
        ticks = whole;
        others = last.before;
        by = last.last.by;
        finish = last.is ∙ (let same : last.last ≡ (record { by = last.last.by; event = events.Finish }) = ap (λ (x : Event). record { by = last.last.by; event = x }) event in ap (λ (x : Entry). last.before ++ x ∷ []) same);
      }
