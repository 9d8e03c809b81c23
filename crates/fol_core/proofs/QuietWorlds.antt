-- The world after a quiet tick.
use Rattle.std.proofs.Common.{◌≡◌, ℕ, ◌+◌, ◌-◌, refl, sym, ◌∙◌, ap, arith, false, ◌&&◌, []}
use Rattle.std.specs.Prelude.{Option, Some, None}
use Rattle.std.proofs.Math.Path.{fun_ext}
use Rattle.fol_model.specs.declared.places.ChunkPos.{ChunkPos}
use Rattle.fol_model.specs.declared.events.Event.TheVariants.{End}
use Rattle.fol_model.specs.Counting.{count_below}
use Rattle.fol_model.specs.Counters.{owed_after_release, tick_after_release}
use Rattle.fol_model.specs.ActionStep.{at_id}
use Rattle.fol_model.specs.Begin.{begin}
use Rattle.fol_model.specs.FlatTick.{FlatEnd, flat_tick, moved}
use Rattle.fol_model.specs.Job.{Job, is_on, is_taken}
use Rattle.fol_model.specs.QueuedTask.{begun, counted_down}
use Rattle.fol_model.specs.Release.{release}
use Rattle.fol_model.specs.World.{World, due}
use Rattle.fol_model.specs.End.{all_accepted, answers, dropped, ended, left, outcome_in, released, run_down, ticked}
use Rattle.fol_model.specs.Run.{Allowed}
use Rattle.fol_laws.proofs.CountBelow.{count_zero}
use Rattle.fol_laws.proofs.FunctionsChanged.{at_here}
use Rattle.fol_laws.proofs.GridFields.{begin_here}

-- the world after it: the counter of the region has risen, what it owes and the rests of its tasks have fallen, and its entities have moved
abbrev pub passed : World → ℕ → ℕ → World
passed w worker r = record (begun w worker r) { grid = w.grid; tick = at_id w.tick r (w.tick r + 1); flat = moved ((begun w worker r).recorded r) w.flat }

not_left : (r : ℕ) (o : Option Job) → is_taken r o ≡ false → left r o ≡ o
not_left r None h = refl
not_left r (Some j) h = rw h refl

-- where none of its tasks was taken, no hold is dropped
nothing_dropped : (w : World) (r : ℕ) → ((n : ℕ) → is_taken r (w.jobs n) ≡ false) → dropped w r ≡ w
unfolding dropped
nothing_dropped w r none = λ i. record w { grid = record w.grid { holds = holds i }; jobs = jobs i }
  where
    minus_zero : (n : ℕ) → n - 0 ≡ n
    minus_zero n = omega arith

    hold : (c : ChunkPos) → w.grid.holds c - count_below (λ n. is_taken r (w.jobs n) && is_on c (w.jobs n)) w.next_job ≡ w.grid.holds c
    hold c = ap (λ k. w.grid.holds c - k) (count_zero (λ n. is_taken r (w.jobs n) && is_on c (w.jobs n)) w.next_job (λ n. let k = none n in rw k refl)) ∙ minus_zero (w.grid.holds c)

    holds : (λ c. w.grid.holds c - count_below (λ n. is_taken r (w.jobs n) && is_on c (w.jobs n)) w.next_job) ≡ w.grid.holds
    holds = fun_ext hold

    jobs : (λ n. left r (w.jobs n)) ≡ w.jobs
    jobs = fun_ext (λ n. not_left r (w.jobs n) (none n))

-- a tick without due tasks is the movement of its entities
no_tasks : (w : World) (r : ℕ) → due w r ≡ [] → ticked w r [] ≡ record { flat = moved (w.recorded r) w.flat; ran = []; wishes = [] }
unfolding flat_tick
no_tasks w r e = ap (λ ts. flat_tick (w.recorded r) (outcome_in []) ts w.flat) e

-- ---- a tick of r that has just begun, in which no task is due
module _ (w : World) (worker r : ℕ) (none : due (begun w worker r) r ≡ []) (calm : (n : ℕ) → is_taken r (counted_down w.grid r (w.jobs n)) ≡ false)
    (rests : release (begin w.grid r) r ≡ w.grid)
    (counters : (f : ℕ → ℕ) (q : ℕ) → tick_after_release (begin w.grid r) r f q ≡ f q) (owes : (f : ℕ → ℕ) (q : ℕ) → owed_after_release (begin w.grid r) r f q ≡ f q) where
  abbrev v : World
  v = begun w worker r

  comes_to : ticked v r [] ≡ record { flat = moved (v.recorded r) v.flat; ran = []; wishes = [] }
  comes_to = no_tasks v r none

  abbrev run : World
  run = record v { flat = moved (v.recorded r) v.flat; tick = at_id v.tick r (v.tick r + 1) }

  ran_down : run_down v r [] ≡ run
  unfolding begun
  ran_down = ap (λ (x : FlatEnd). dropped (record v { flat = x.flat; tick = at_id v.tick r (v.tick r + 1) }) r) comes_to ∙ nothing_dropped run r calm

  -- its End is allowed
  pub end_allowed : Allowed v (End worker r (v.tick r + 1) [] [])
  unfolding begun
  end_allowed = (
    begin_here w.grid r,
    sym (at_here w.worker r worker),
    refl,
    sym (ap (λ (x : FlatEnd). x.ran) comes_to),
    sym (ap (λ (x : FlatEnd). answers (run_down v r []) x.wishes) comes_to),
  )

  end_releases : released run r ≡ passed w worker r
  unfolding released begun
  end_releases = λ i. record run { grid = rests i; tick = fun_ext (counters run.tick) i; owed = fun_ext (owes run.owed) i }

  -- and this is the world after it
  pub quiet_ended : ended v r [] ≡ passed w worker r
  unfolding ended
  quiet_ended = ap (λ (x : FlatEnd). released (all_accepted (run_down v r []) x.wishes) r) comes_to ∙ ap (λ x. released x r) ran_down ∙ end_releases
