-- The end of a tick in the world, as one step.
use Rattle.std.specs.Prelude.{ℕ, ◌+◌, ◌-◌, ◌&&◌, nat_eq, if◌then◌else◌, List, [], ◌∷◌, Option, Some, None}
use Rattle.fol_model.specs.Holds.{posted, posting}
use Rattle.fol_model.specs.Add.{is_full}
use Rattle.fol_model.specs.Counters.{owed_after_release, tick_after_release}
use Rattle.fol_model.specs.Counting.{count_below}
use Rattle.fol_model.specs.Release.{release}
use Rattle.fol_model.specs.ActionStep.{at_id}
use Rattle.fol_model.specs.FlatTick.{FlatEnd, flat_tick}
use Rattle.fol_model.specs.World.{World, due}
use Rattle.fol_model.specs.Job.{Job, is_on, is_taken}
use Rattle.fol_model.specs.declared.places.BlockPos.{BlockPos}
use Rattle.fol_model.specs.declared.events.Accept.{Accept}
use Rattle.fol_model.specs.declared.actions.Action.{Action}
use Rattle.fol_model.specs.declared.actions.Action.TheVariants.{Arrive}
use Rattle.fol_model.specs.declared.tasks.Outcome.{Outcome}
use Rattle.fol_model.specs.declared.tasks.Outcome.TheVariants.{Done}
use Rattle.fol_model.specs.declared.tasks.Ran.{Ran}
use Rattle.fol_model.specs.declared.tasks.Wish.{Wish}

-- the outcome of a number in a list
abbrev pub outcome_in : List Ran → ℕ → Outcome
outcome_in [] n = Done
outcome_in (x ∷ xs) n = if nat_eq x.number n then x.outcome else outcome_in xs n

-- the tick of r on the whole flat world
abbrev pub ticked : World → ℕ → List Ran → FlatEnd
ticked w r ran = flat_tick (w.recorded r) (outcome_in ran) (due w r) w.flat

abbrev pub left : ℕ → Option Job → Option Job
left r None = None
left r (Some j) = if nat_eq j.taker r then None else Some j

-- the tasks that ran are over, and their holds are dropped
unfoldable pub dropped : World → ℕ → World
dropped w r = record w {
  grid = record w.grid { holds = λ c. w.grid.holds c - count_below (λ n. is_taken r (w.jobs n) && is_on c (w.jobs n)) w.next_job };
  jobs = λ n. left r (w.jobs n);
}

-- a send that is Full puts its entity back at the block that it left
abbrev pub put_back : World → Action → Option BlockPos → World
put_back w (Arrive e) (Some b) = record w { flat = record w.flat { standing = at_id w.flat.standing e.id (Some (record { at = b; vx = e.vx; vz = e.vz })) } }
put_back w _ _ = w

-- one wish; the entity of a send that is posted is from now on in transit under the number of its task
unfoldable pub accepted : World → Wish → World
accepted w x = if is_full w.grid x.chunk then put_back w x.action x.back else posted w x.chunk x.delay x.action

abbrev pub all_accepted : World → List Wish → World
all_accepted w [] = w
all_accepted w (x ∷ xs) = all_accepted (accepted w x) xs

abbrev pub answers : World → List Wish → List Accept
answers w [] = []
answers w (x ∷ xs) = posting w x.chunk ∷ answers (accepted w x) xs

unfoldable pub released : World → ℕ → World
released w r = record w {
  grid = release w.grid r;
  tick = tick_after_release w.grid r w.tick;
  owed = owed_after_release w.grid r w.owed;
}

-- steps 1 to 3 of an end
abbrev pub run_down : World → ℕ → List Ran → World
run_down w r ran = dropped (record w { flat = (ticked w r ran).flat; tick = at_id w.tick r (w.tick r + 1) }) r

unfoldable pub ended : World → ℕ → List Ran → World
ended w r ran = released (all_accepted (run_down w r ran) (ticked w r ran).wishes) r
