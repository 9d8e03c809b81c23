-- A worker that passes over quiet ticks.
use Rattle.std.proofs.Common.{◌≡◌, ℕ, ◌≤◌, refl, sym, true, false, List, [], ◌∷◌, ◌++◌, append-nil}
use Rattle.std.specs.Prelude.{nat_eq}
use Rattle.std.specs.List.{AllByRecursion}
use Rattle.std.proofs.lemmas.Bool.{eq-eqb}
use Rattle.fol_model.specs.ActionStep.{Flat, Recorded}
use Rattle.fol_model.specs.End.{outcome_in, ticked}
use Rattle.fol_model.specs.FlatTick.{flat_tick, outcomes}
use Rattle.fol_model.specs.Legal.{idle}
use Rattle.fol_model.specs.QueuedTask.{begun}
use Rattle.fol_model.specs.Run.{RunFrom, after_all, world}
use Rattle.fol_model.specs.World.{World, due, start}
use Rattle.fol_model.specs.declared.events.Entry.{Entry}
use Rattle.fol_model.specs.declared.events.Event.TheVariants.{Begin, End}
use Rattle.fol_model.specs.declared.openings.Opening.{Opening}
use Rattle.fol_model.specs.declared.tasks.Outcome.{Outcome}
use Rattle.fol_model.specs.declared.tasks.Ran.{Ran}
use Rattle.fol_model.specs.declared.tasks.Task.{Task}
use Rattle.fol_core.specs.Quiet.{quiet_tick}
use Rattle.fol_core.proofs.FinishedRun.{before_entry}
use Rattle.fol_seat_laws.specs.InTurn.{NoneOpen}
use Rattle.fol_seat_laws.specs.Late.{OnlyBegins}
use Rattle.fol_seat_laws.specs.Signed.{IsSigned}
use Rattle.fol_seat_laws.specs.Turns.{Turns}
use Rattle.fol_seat_laws.specs.Worked.{WasWhole}
use Rattle.fol_seat_laws.proofs.LateTurns.{stays_idle}
use Rattle.fol_seat_laws.proofs.Splits.{all_before}
use Rattle.fol_seat_laws.proofs.Stopping.{run_behind}
use Rattle.fol_seat_laws.proofs.Turning.{turns_both}
use Rattle.fol_offers.specs.PassedTicks.{QuietTick, quiet_entries}
use Rattle.fol_live.specs.Kept.{Keeps}
use Rattle.fol_pool.proofs.Going.{IsCalm, stopped_before}

-- a tick in which no task ran has none
none_ran : (rec : Recorded) (given : ℕ → Outcome) (f : Flat) (ts : List Task) → [] ≡ outcomes rec given f ts → ts ≡ []
none_ran rec given f [] none = refl
none_ran rec given f (t ∷ ts) none = absurd (cc)

none_due : (w : World) (r : ℕ) (ran : List Ran) → [] ≡ (ticked w r ran).ran → due w r ≡ []
unfolding flat_tick
none_due w r ran none = none_ran (w.recorded r) (outcome_in ran) w.flat (due w r) none

-- one such tick
one_quiet : (k r t : ℕ) (w : World) → RunFrom w (quiet_tick k r t) → Turns k w idle (quiet_tick k r t) idle
one_quiet k r t w run =
    let own : nat_eq k k ≡ true = eq-eqb k k refl in
    let none : due (begun w k r) r ≡ [] = none_due (begun w k r) r [] run.2.1.3 in
    rw (own, none) ((λ mine. tt), ((λ mine. (refl, refl)), refl))

quiet_turns : (k : ℕ) (w : World) (ts : List QuietTick) → RunFrom w (quiet_entries k ts) → Turns k w idle (quiet_entries k ts) idle
unfolding quiet_entries
quiet_turns k w [] run = refl
quiet_turns k w (t ∷ ts) run =
    let xs = quiet_tick k t.region t.counter in
    let ys = quiet_entries k ts in
    turns_both k w idle idle idle xs ys (one_quiet k t.region t.counter w (before_entry w xs ys run)) (quiet_turns k (after_all w xs) ts (run_behind w xs ys run))

pub quiet_calm : (k : ℕ) (ts : List QuietTick) → AllByRecursion IsCalm (quiet_entries k ts)
unfolding quiet_entries
quiet_calm k [] = tt
quiet_calm k (t ∷ ts) = (refl, (refl, quiet_calm k ts))

-- ---- behind a tick

-- a worker that is at nothing, behind Begins that it learnt of and ticks that it passed over
module _ (o : Opening) (k w : ℕ) (before late : List Entry) (some : 1 ≤ k) (begins : OnlyBegins k late) (t : (world o before).stopped ≡ false → Turns k (start o) idle before idle) where
  abbrev known : List Entry
  known = before ++ late

  none_open : (first : QuietTick) (ts : List QuietTick) → Keeps w o (known ++ quiet_entries k (first ∷ ts)) → NoneOpen k known
  unfolding quiet_entries
  none_open first ts keeps =
      let begin : Entry = record { by = k; event = Begin k first.region } in
      let end : Entry = record { by = k; event = End k first.region first.counter [] [] } in
      keeps.turns.turns known begin (end ∷ quiet_entries k ts) k first.region refl refl

  some_passed : (first : QuietTick) (ts : List QuietTick) → Keeps w o (known ++ quiet_entries k (first ∷ ts)) → (world o (known ++ quiet_entries k (first ∷ ts))).stopped ≡ false
      → Turns k (start o) idle (known ++ quiet_entries k (first ∷ ts)) idle
  some_passed first ts keeps go =
      let passed = quiet_entries k (first ∷ ts) in
      let here = stopped_before o known passed go in
      let still : Turns k (start o) idle known idle
      = stays_idle o k known before late refl keeps.grid (before_entry (start o) known passed keeps.run) (all_before IsSigned known passed keeps.signed) some begins
      (t (stopped_before o before late here)) (none_open first ts keeps) in
      turns_both k (start o) idle idle idle known passed still (quiet_turns k (world o known) (first ∷ ts) (run_behind (start o) known passed keeps.run))

  pub whole_passed : (ts : List QuietTick) → Keeps w o (known ++ quiet_entries k ts) → WasWhole o (known ++ quiet_entries k ts) k
  unfolding quiet_entries
  whole_passed [] keeps = record { seen = before; rest = late; is = append-nil known; behind = begins; ticks = t }
  whole_passed (first ∷ ts) keeps =
      let passed = quiet_entries k (first ∷ ts) in
      record { seen = known ++ passed; rest = []; is = sym (append-nil (known ++ passed)); behind = tt; ticks = some_passed first ts keeps }
