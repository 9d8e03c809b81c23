-- Data in which nothing lies.
use Rattle.std.proofs.Common.{◌≡◌, List, [], refl, ap, Option, Some, None, ℕ, ◌≤◌, ◌^◌, sym, ◌∙◌}
use Rattle.std.specs.Option.{option_map, option_or}
use Rattle.fol_model.specs.declared.places.ChunkPos.{ChunkPos}
use Rattle.fol_model.specs.ActionStep.{Flat}
use Rattle.fol_queues.specs.Waiting.{dated_in, job_of}
use Rattle.fol_queues.specs.declared.dated.Dated.{Dated}
use Rattle.fol_chunks.specs.Contents.{flat_of, nothing}
use Rattle.fol_data.specs.declared.region_data.RegionData.{RegionData}
use Rattle.fol_bags.specs.Moves.{Loses, Gains}
use Rattle.fol_bags.specs.Things.{Key, of_block, of_entity, of_task, things, some_number, IsTimely, no_data}

-- nothing has nothing
pub things_none : (k : Key) → things no_data k ≡ None
things_none (of_block b) = refl
things_none (of_entity id) = refl
things_none (of_task n) = refl

-- nothing, whatever the counters
pub things_of_nothing : (tick owed : ℕ) (k : Key) → things (record no_data { tick = tick; owed = owed }) k ≡ None
things_of_nothing tick owed (of_block b) = refl
things_of_nothing tick owed (of_entity id) = refl
things_of_nothing tick owed (of_task n) = refl

-- data without tasks is timely
pub timely_empty : (r : RegionData) → r.tick ≤ 2 ^ 62 → r.queues.tasks ≡ [] → IsTimely r
timely_empty r l e = record {
  tick = l;
  in_time = λ n x q. let f : None ≡ Some x = sym (ap (λ (ds : List Dated). dated_in ds n) e) ∙ q in absurd (let z : ⊥ = cc in z);
}

pub things_empty : (r : RegionData) → r.queues.tasks ≡ [] → flat_of r.chunks ≡ nothing → (k : Key) → things r k ≡ None
things_empty r tasks contents (of_block b) = ap (λ (f : Flat). some_number (f.blocks b)) contents
things_empty r tasks contents (of_entity id) = ap (λ (f : Flat). f.standing id) contents
things_empty r tasks contents (of_task n) = ap (λ (ds : List Dated). option_map (job_of r.tick) (dated_in ds n)) tasks

-- what is empty loses nothing, and nothing comes from it
pub loses_nothing : (chunks : List ChunkPos) (r : RegionData) → ((k : Key) → things r k ≡ None) → Loses chunks r r
loses_nothing chunks r none = record { things = λ k. rw (none k) refl; tick = refl; owed = refl }

pub gains_nothing : (chunks : List ChunkPos) (other r : RegionData) → ((k : Key) → things other k ≡ None) → Gains chunks other r r
gains_nothing chunks other r none = record { things = λ k. rw (none k) (alone (things r k)); tick = refl; owed = refl }
  where
    alone : {X : Type 0} (o : Option X) → o ≡ option_or o None
    alone None = refl
    alone (Some x) = refl
