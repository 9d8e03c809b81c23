-- How far a tick has come, and what it needs to go on.
use Rattle.std.specs.Prelude.{ℕ, ◌≡◌, ◌≤◌, ◌<◌, true, false, List, [], ◌∷◌, ◌++◌, All, length, take, drop, IsTrue, IsNone, nat_eq}
use Rattle.std.specs.List.{IsDistinct, slice_range}
use Rattle.std.specs.List.Sorted.{IsStrictlySortedBy}
use Rattle.fol_model.specs.Geometry.{is_chunk}
use Rattle.fol_model.specs.Limits.{is_action}
use Rattle.fol_model.specs.ActionStep.{Flat, Recorded, plain_of}
use Rattle.fol_model.specs.FlatTick.{FlatEnd, acted, outcomes, asked, flat_tick, Rising}
use Rattle.fol_model.specs.declared.actions.Action.{Action}
use Rattle.fol_model.specs.declared.actions.Action.TheVariants as action
use Rattle.fol_model.specs.declared.tasks.Outcome.{Outcome}
use Rattle.fol_model.specs.declared.tasks.Task.{Task}
use Rattle.fol_chunks.specs.Order.{chunk_cmp}
use Rattle.fol_chunks.specs.Contents.{flat_of, is_recorded}
use Rattle.fol_data.specs.declared.tick.Tick.{Tick}
use Rattle.fol_tick.specs.Calls.{HostCall, AreCallsOf, given, is_hosted}

-- the tasks alone, without the movement that ends a tick
abbrev pub tasks_run : Recorded → (ℕ → Outcome) → List Task → Flat → FlatEnd
tasks_run rec g ts f = record { flat = acted rec f ts; ran = outcomes rec g f ts; wishes = asked rec f ts }

-- what a tick has come to so far
abbrev pub stage_of : Tick → FlatEnd
stage_of t = record { flat = flat_of t.body.chunks; ran = t.log.ran; wishes = t.log.wishes }

-- what comes next, behind what there is so far
abbrev pub behind : FlatEnd → FlatEnd → FlatEnd
behind before more = record { flat = more.flat; ran = before.ran ++ more.ran; wishes = before.wishes ++ more.wishes }

-- the tasks ran behind what there was before, and these are their calls
pub record TasksRan (rec : Recorded) (ts : List Task) (before after : FlatEnd) (calls : List HostCall) : Type 0 where
  pub served : AreCallsOf ts calls
  pub stage : after ≡ behind before (tasks_run rec (given ts calls) ts before.flat)

-- what no run of a tick changes
pub record SameTick (old new : Tick) : Type 0 where
  pub worker : new.worker ≡ old.worker
  pub region : new.region ≡ old.region
  pub begun : new.begun ≡ old.begun
  pub chunks : new.chunks ≡ old.chunks
  pub due : new.due ≡ old.due
  pub counter : new.body.tick ≡ old.body.tick
  pub owed : new.body.owed ≡ old.body.owed
  pub queues : new.body.queues ≡ old.body.queues

-- the due tasks of the one that have run in the other
abbrev pub tasks_between : Tick → Tick → List Task
tasks_between start now = slice_range start.due start.next now.next

-- `now` is `start` after some more of its tasks, and these are their calls
pub record Runs (start now : Tick) (calls : List HostCall) : Type 0 where
  pub same : SameTick start now
  pub unmoved : now.moved ≡ false
  pub forward : start.next ≤ now.next
  pub within : now.next ≤ length now.due
  pub tasks : TasksRan (is_recorded start.chunks) (tasks_between start now) (stage_of start) (stage_of now) calls

-- `now` is `start` after all the rest of its tasks and the movement, and these are their calls
pub record Finishes (start now : Tick) (calls : List HostCall) : Type 0 where
  pub same : SameTick start now
  pub moved : now.moved ≡ true
  pub next : now.next ≡ length now.due
  pub served : AreCallsOf (drop start.next start.due) calls
  pub stage : stage_of now ≡ behind (stage_of start) (flat_tick (is_recorded start.chunks) (given (drop start.next start.due) calls) (drop start.next start.due) (flat_of start.body.chunks))

-- the first task that has not run, where there is one
abbrev pub next_task : Tick → List Task
next_task t = take 1 (drop t.next t.due)

-- there is a next task, and it is one that asks the host
pub record StopsAtHost (t : Tick) : Type 0 where
  pub next : t.next < length t.due
  pub hosted : All (λ x. IsTrue (is_hosted (plain_of x.action))) (next_task t)

-- the id of the entity that an action lets arrive
abbrev pub arrival_of : Action → List ℕ
arrival_of (action.Arrive e) = e.id ∷ []
arrival_of _ = []

-- the ids of the entities that arrive
abbrev pub arrivals : List Task → List ℕ
arrivals [] = []
arrivals (t ∷ ts) = arrival_of (plain_of t.action) ++ arrivals ts

-- each entity that arrives does so once, and stands nowhere before
pub record AreFresh (f : Flat) (ts : List Task) : Type 0 where
  pub distinct : IsDistinct nat_eq (arrivals ts)
  pub absent : All (λ id. IsNone (f.standing id)) (arrivals ts)

-- the tick is not finished, its chunks rise by z and then by x, its tasks rise by number, all of them are within the limits, and the
-- entities that still arrive are fresh
pub record MayRun (t : Tick) : Type 0 where
  pub unmoved : t.moved ≡ false
  pub within : t.next ≤ length t.due
  pub chunk_order : IsStrictlySortedBy chunk_cmp t.chunks
  pub chunk_places : All (λ c. IsTrue (is_chunk c)) t.chunks
  pub task_order : Rising t.due
  pub task_limits : All (λ x. IsTrue (is_action x.action)) t.due
  pub fresh : AreFresh (flat_of t.body.chunks) (drop t.next t.due)
