-- What contracts see of the bag of a region.
use Rattle.std.specs.Prelude.{ℕ, ◌≡◌, Bool, true, false, not, ◌&&◌, List, []}
use Rattle.fol_model.specs.declared.places.ChunkPos.{ChunkPos}
use Rattle.fol_chunks.specs.Contents.{is_recorded}

pub record Bag : Type 0 where
  -- the store has the bag
  pub here : Bool
  -- the bag was taken out and has not come back
  pub taken : Bool
  -- the counter and the owed number of the region; 0 where the bag is not here
  pub tick : ℕ
  pub owed : ℕ
  -- it was gathered for its chunks, and has these still
  pub listed : Bool
  -- no task came on its chunks while it was listed, since it last held all that lies on them
  pub calm : Bool
  -- the chunks for which it was gathered
  pub chunks : List ChunkPos
  -- chunks that may have come or left since then, while the bag was taken out
  pub since : List ChunkPos

-- nothing outside the bag lies on its chunks, and nothing in it lies elsewhere
abbrev pub is_whole : Bag → Bool
is_whole b = b.listed && b.calm

-- of a region that has none
abbrev pub no_bag : Bag
no_bag = record { here = false; taken = false; tick = 0; owed = 0; listed = false; calm = false; chunks = []; since = [] }

-- of a region that has just begun
abbrev pub new_bag : ℕ → ℕ → Bag
new_bag tick owed = record { here = true; taken = false; tick = tick; owed = owed; listed = true; calm = true; chunks = []; since = [] }

-- after a task came on the chunk: a listed bag that has the chunk is calm no more
abbrev pub disturbed : ChunkPos → Bag → Bag
disturbed c b = record b { calm = b.calm && not (b.listed && is_recorded b.chunks c) }

-- after a task came on the chunk, which the bag may have taken in: the bag that has the chunk may be calm no more
pub record Stirred (c : ChunkPos) (old new : Bag) : Type 0 where
  pub same : new ≡ record old { calm = new.calm }
  pub before : new.calm ≡ true → old.calm ≡ true
  pub away : is_recorded old.chunks c ≡ false → new.calm ≡ old.calm

-- after all of it was taken out
abbrev pub taken_out : Bag → Bag
taken_out b = record b { here = false; taken = true; tick = 0; owed = 0 }

-- after it came back with these numbers
abbrev pub put_back : ℕ → ℕ → Bag → Bag
put_back tick owed b = record b { here = true; taken = false; tick = tick; owed = owed }
