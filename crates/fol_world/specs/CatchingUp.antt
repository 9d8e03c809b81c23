-- A bag that came back follows a chunk that it noted.
use Rattle.std.specs.Prelude.{ℕ, ◌≡◌, true, false, List, Option}
use Rattle.std.specs.List.Sorted.{IsStrictlySortedBy}
use Rattle.fol_model.specs.declared.places.ChunkPos.{ChunkPos}
use Rattle.fol_model.specs.Geometry.{same_chunk}
use Rattle.fol_model.specs.GridState.{GridState, is_loaded}
use Rattle.fol_model.specs.Job.{Job}
use Rattle.fol_chunks.specs.Contents.{is_recorded}
use Rattle.fol_chunks.specs.Order.{chunk_cmp}
use Rattle.fol_store.specs.Bag.{Bag}
use Rattle.fol_bags.specs.Clear.{HasNoTask}
use Rattle.fol_world.specs.Bags.{KeepsUp}

-- the chunks of the bag are these, but for c and those that it noted
pub record KeepsUpBut (c : ChunkPos) (b : Bag) (chunks : List ChunkPos) : Type 0 where
  pub order : IsStrictlySortedBy chunk_cmp b.chunks
  pub same : (q : ChunkPos) → same_chunk c q ≡ false → is_recorded b.since q ≡ false → is_recorded b.chunks q ≡ is_recorded chunks q

-- the bag may be listed for these chunks, but for those that it noted
pub record CatchesUp (chunks : List ChunkPos) (old new : Bag) : Type 0 where
  pub same : new ≡ record old { listed = new.listed; calm = new.calm; chunks = new.chunks }
  pub before : new.listed ≡ true → old.listed ≡ true
  pub listed : new.listed ≡ true → KeepsUp new chunks

-- none of the tasks is on a chunk that nothing holds
abbrev pub AreHeld : GridState → (ℕ → Option Job) → Type 0
AreHeld g jobs = (c : ChunkPos) → is_loaded g c ≡ false → HasNoTask c jobs
