-- The state of the world.
use Rattle.std.specs.Prelude.{ℕ, zero, suc, Bool, false, nat_eq, if◌then◌else◌, List, [], ◌∷◌, ◌++◌, Option, Some, None}
use Rattle.fol_model.specs.Job.{Job, taken_task}
use Rattle.fol_model.specs.declared.places.ChunkPos.{ChunkPos}
use Rattle.fol_model.specs.Geometry.{same_block}
use Rattle.fol_model.specs.GridState.{GridState, empty}
use Rattle.fol_model.specs.ActionStep.{Standing, Flat, Recorded, standing_of}
use Rattle.fol_model.specs.declared.places.BlockPos.{BlockPos}
use Rattle.fol_model.specs.declared.openings.BlockAt.{BlockAt}
use Rattle.fol_model.specs.declared.entities.Entity.{Entity}
use Rattle.fol_model.specs.declared.openings.Opening.{Opening}
use Rattle.fol_model.specs.declared.tasks.Task.{Task}

pub record World : Type 0 where
  pub grid : GridState
  pub tickets : ChunkPos → ℕ
  pub flat : Flat
  -- by number
  pub jobs : ℕ → Option Job
  pub next_job : ℕ
  -- of each Ticking region: the worker of its open tick, and the recorded chunks
  pub worker : ℕ → ℕ
  pub recorded : ℕ → Recorded
  -- of each region: its counter, and what it owes
  pub tick : ℕ → ℕ
  pub owed : ℕ → ℕ
  pub in_phase : Bool
  -- the ticks of all phases so far
  pub sum : ℕ
  pub stopped : Bool
  pub finished : Bool

-- the tasks that the tick of r has taken, of those with a number below n
unfoldable pub due_below : World → ℕ → ℕ → List Task
due_below w r zero = []
due_below w r (suc n) = due_below w r n ++ taken_task r n (w.jobs n)

-- the due tasks of the open tick of r, in order of number
abbrev pub due : World → ℕ → List Task
due w r = due_below w r w.next_job

-- the number of a block in a list of blocks, and 0 where it is not there
abbrev pub block_in : List BlockAt → BlockPos → ℕ
block_in [] b = 0
block_in (x ∷ xs) b = if same_block x.at b then x.id else block_in xs b

abbrev pub standing_in : List Entity → ℕ → Option Standing
standing_in [] id = None
standing_in (e ∷ es) id = if nat_eq e.id id then Some (standing_of e) else standing_in es id

abbrev pub start : Opening → World
start o = record {
  grid = empty o.grid;
  tickets = λ c. 0;
  flat = record { blocks = block_in o.blocks; standing = standing_in o.entities };
  jobs = λ n. None;
  next_job = 1;
  worker = λ r. 0;
  recorded = λ r c. false;
  tick = λ r. 0;
  owed = λ r. 0;
  in_phase = false;
  sum = 0;
  stopped = false;
  finished = false;
}
