-- What a Begin takes out of the store.
use Rattle.std.specs.Prelude.{ℕ, ◌≡◌, ◌-◌, true, false, not, ◌&&◌, ◌⊎◌, nat_le, if◌then◌else◌, filter, Option, Some, None, Bool, ◌≤◌, [], vec_capacity}
use Rattle.fol_model.specs.declared.tasks.Task.{Task}
use Rattle.fol_model.specs.Universe.{all_chunks}
use Rattle.fol_model.specs.GridState.{GridState}
use Rattle.fol_model.specs.ActionStep.{Recorded}
use Rattle.fol_model.specs.Job.{Job}
use Rattle.fol_model.specs.Outputs.{is_chunk_of}
use Rattle.fol_store.specs.Bag.{Bag, is_whole}
use Rattle.fol_world.specs.Bags.{KeepsUp}
use Rattle.std.specs.Global.{Vec}
use Rattle.fol_store.specs.Stock.{Stock, bag_of, due_of}

-- how a bag of region r may differ after a gathering: it is listed for what it was, or for the region's loaded chunks
pub record Gathered (g : GridState) (r : ℕ) (old new : Bag) : Type 0 where
  pub here : new.here ≡ old.here
  pub taken : new.taken ≡ old.taken
  pub counter : new.tick ≡ old.tick
  pub owes : new.owed ≡ old.owed
  pub listed : new.listed ≡ true → ((old.listed ≡ true) × (new.chunks ≡ old.chunks) × (new.since ≡ old.since)) ⊎ KeepsUp new (filter (is_chunk_of g r) all_chunks)
  pub since : old.taken ≡ false → new.since ≡ old.since
  pub out : old.taken ≡ true → new.chunks ≡ old.chunks

-- the task goes with the tick and waits for a later one
abbrev pub left_job : Recorded → Option Job → Option Job
left_job rec None = None
left_job rec (Some j) = if (rec j.chunk && not (nat_le j.rest 1)) then Some (record j { rest = j.rest - 1 }) else None

-- the task is due in the tick
abbrev pub due_task : Recorded → ℕ → Option Job → Option Task
due_task rec n None = None
due_task rec n (Some j) = if (rec j.chunk && nat_le j.rest 1) then Some (record { number = n; chunk = j.chunk; action = j.action }) else None

-- an empty list with room for the due tasks of a whole bag, where the region owes a tick
pub record DueRoom (due : Vec Task) (k : Stock) (owes : Bool) (id : ℕ) : Type 0 where
  pub empty : due.items ≡ []
  pub whole : owes ≡ true → is_whole (bag_of k id) ≡ true
  pub room : owes ≡ true → due_of k id ≤ vec_capacity due
