-- The parts of a region that is over, while they get what lies on their chunks.
use Rattle.std.specs.Prelude.{ℕ, ◌≡◌, ◌≢◌, ◌<◌, ◌≤◌, Bool, true, not, ◌&&◌, ◌||◌, nat_eq, nat_le, nat_lt, List, filter}
use Rattle.std.specs.List.{list_any}
use Rattle.fol_model.specs.declared.places.ChunkPos.{ChunkPos}
use Rattle.fol_model.specs.Geometry.{section_of}
use Rattle.fol_model.specs.GridState.{GridState}
use Rattle.fol_model.specs.Universe.{all_chunks}
use Rattle.fol_store.specs.Bag.{Bag}
use Rattle.fol_store.specs.Relisted.{Stays}
use Rattle.fol_world.specs.Begun.{Gathered}
use Rattle.fol_world.specs.Released.{part_bag}

-- of this id: a part of the region r, for which nothing was gathered
pub record IsFreshPart (r : ℕ) (f : ℕ → Bag) (id : ℕ) : Type 0 where
  pub below : r < id
  pub fresh : f id ≡ part_bag (f r).tick (f r).owed

-- the bag is listed for its chunks but for those that pass, or has to be gathered anew
abbrev pub Leaves : (ChunkPos → Bool) → Bag → Bag → Type 0
Leaves p old new = new.listed ≡ true → (old.listed ≡ true) × (new.chunks ≡ filter (λ c. not (p c)) old.chunks)

-- a loaded chunk of the heir, or of one of the parts from the id n on
abbrev pub is_left : GridState → ℕ → List ℕ → ℕ → ChunkPos → Bool
is_left g heir ids n c = nat_lt 0 (g.holds c)
    && (nat_eq (g.owner (section_of g.grid c)) heir || (nat_le n (g.owner (section_of g.grid c)) && list_any (nat_eq (g.owner (section_of g.grid c))) ids))

-- those of the parts of the region r with ids below n took what lies on their chunks, but for the heir, and f became h
pub record SharesBelow (g : GridState) (r heir : ℕ) (ids : List ℕ) (n : ℕ) (f h : ℕ → Bag) : Type 0 where
  pub rest : Stays (f r) (h r)
  pub left : (h r).listed ≡ true → (h r).chunks ≡ filter (is_left g heir ids n) all_chunks
  pub own : (u : ℕ) → u ≢ r → Gathered g u (f u) (h u)
  pub waits : h heir ≡ f heir
  pub later : (u : ℕ) → n ≤ u → h u ≡ f u
