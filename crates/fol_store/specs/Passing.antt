-- Ticks of a region in which none of its tasks is due.
use Rattle.std.specs.Prelude.{◌≡◌, ℕ, zero, suc, ◌+◌, ◌-◌, ◌<◌, ◌≤◌, true, if◌then◌else◌, Option, Some, None}
use Rattle.std.specs.Option.{ForSome}
use Rattle.fol_model.specs.ActionStep.{Recorded, at_id}
use Rattle.fol_model.specs.FlatTick.{moved}
use Rattle.fol_model.specs.Job.{Job}
use Rattle.fol_chunks.specs.Contents.{is_recorded}
use Rattle.fol_store.specs.Bag.{is_whole}
use Rattle.fol_store.specs.Stock.{Stock, flat_of, jobs_of, bag_of, next_of}

-- a task on a chunk that passes is one tick nearer
abbrev pub nearer : Recorded → Option Job → Option Job
nearer rec None = None
nearer rec (Some j) = if rec j.chunk then Some (record j { rest = j.rest - 1 }) else Some j

-- a tick of the region passed in which none of its tasks was due: its counter rose, what it owes fell, its tasks came a tick nearer and its
-- entities moved; nothing else changed
pub record PassesOnce (id : ℕ) (old new : Stock) : Type 0 where
  pub here : (bag_of old id).here ≡ true
  pub whole : is_whole (bag_of old id) ≡ true
  pub owes : 0 < (bag_of old id).owed
  pub bags : bag_of new ≡ at_id (bag_of old) id (record (bag_of old id) { tick = (bag_of old id).tick + 1; owed = (bag_of old id).owed - 1 })
  pub contents : flat_of new ≡ moved (is_recorded (bag_of old id).chunks) (flat_of old)
  pub tasks : jobs_of new ≡ λ n. nearer (is_recorded (bag_of old id).chunks) (jobs_of old n)
  pub later : (n : ℕ) → ForSome (jobs_of old n) (λ j. is_recorded (bag_of old id).chunks j.chunk ≡ true → 2 ≤ j.rest)
  pub next : next_of new ≡ next_of old

-- both hold the same
pub record HoldsSame (old new : Stock) : Type 0 where
  pub bags : bag_of new ≡ bag_of old
  pub contents : flat_of new ≡ flat_of old
  pub tasks : jobs_of new ≡ jobs_of old
  pub next : next_of new ≡ next_of old

-- so many such ticks passed, one after another
abbrev pub PassesTimes : ℕ → ℕ → Stock → Stock → Type 0
PassesTimes id zero old new = HoldsSame old new
PassesTimes id (suc n) old new = (mid : Stock) × PassesOnce id old mid × PassesTimes id n mid new
