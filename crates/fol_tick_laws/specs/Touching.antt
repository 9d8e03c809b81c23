-- Which prepared regions an event on a chunk may touch.
use Rattle.std.specs.Prelude.{ℕ, ◌≡◌, ◌<◌, Bool, true, ◌||◌, nat_eq, if◌then◌else◌, List, [], ◌∷◌, filter}
use Rattle.std.specs.List.{list_any}
use Rattle.fol_model.specs.declared.places.ChunkPos.{ChunkPos}
use Rattle.fol_model.specs.Geometry.{section_of}
use Rattle.fol_model.specs.GridNumbers.{IsGrid}
use Rattle.fol_model.specs.GridState.{is_ready}
use Rattle.fol_model.specs.Run.{Run}
use Rattle.fol_model.specs.Universe.{numbers_below}
use Rattle.fol_model.specs.World.{World}
use Rattle.fol_laws.specs.LateBegin.{load_touches, post_touches, unload_touches}
use Rattle.fol_core.specs.Ahead.{PreparedAreReady, Spares, may_touch}
use Rattle.fol_core.specs.Meaning.{Meaning, is_prepared, world_of}

-- a load, a post or an unload on the chunk touches the region
abbrev pub is_touched : World → ChunkPos → ℕ → Bool
is_touched w c r = load_touches w.grid c r || (post_touches w.grid c r || unload_touches w c r)

-- the list has the region
abbrev pub lists : List ℕ → ℕ → Bool
lists ids r = list_any (λ id. nat_eq id r) ids

-- this region is prepared, and no other
pub record IsAlone (m : Meaning) (r : ℕ) : Type 0 where
  pub prepared : is_prepared m r ≡ true
  pub only : (q : ℕ) → is_prepared m q ≡ true → q ≡ r

-- a load, a post and an unload on the chunk touch no prepared region
pub record IsSpared (m : Meaning) (c : ChunkPos) : Type 0 where
  pub load : Spares m (load_touches (world_of m).grid c)
  pub post : Spares m (post_touches (world_of m).grid c)
  pub unload : Spares m (unload_touches (world_of m) c)

-- ---- laws

-- a Ready region that an event on the chunk touches is one that it may touch
abbrev pub WhatIsTouchedMayBe : Type 0
WhatIsTouchedMayBe = (w : World) (c : ChunkPos) (r : ℕ) → is_ready (w.grid.state r) ≡ true → is_touched w c r ≡ true → may_touch w c r ≡ true

-- where no prepared region is one of the list of those that an event on the chunk may touch, it touches no prepared region
abbrev pub UnlistedIsSpared : Type 0
UnlistedIsSpared = (m : Meaning) (c : ChunkPos) (ids : List ℕ) → PreparedAreReady m
    → ids ≡ filter (may_touch (world_of m) c) (numbers_below (world_of m).grid.next) → Spares m (lists ids) → IsSpared m c

-- in a run, where a hold is on the chunk, the list of those that an event on it may touch is the owner of its section, if that is Ready, and is
-- empty otherwise
abbrev pub OwnerIsListedAlone : Type 0
OwnerIsListedAlone = (m : Meaning) (c : ChunkPos) (id : ℕ) (ids : List ℕ) → IsGrid m.opening.grid → Run m.opening m.history
    → 0 < (world_of m).grid.holds c → id ≡ (world_of m).grid.owner (section_of (world_of m).grid.grid c)
    → ids ≡ filter (may_touch (world_of m) c) (numbers_below (world_of m).grid.next)
    → ids ≡ (if is_ready ((world_of m).grid.state id) then id ∷ [] else [])
