-- What the steps of an added hold do to the tables of regions.
use Rattle.std.specs.Prelude.{◌≡◌, ◌≢◌, ◌⊎◌, ◌∷◌, ℕ, ◌+◌, ◌<◌, ◌≤◌, Bool, true, false, not, ◌&&◌, ◌||◌, nat_eq, if◌then◌else◌, List, [], ◌++◌, length, filter}
use Rattle.std.specs.List.{list_any}
use Rattle.fol_lists.specs.Numbered.{total}
use Rattle.fol_model.specs.declared.places.ChunkPos.{ChunkPos}
use Rattle.fol_model.specs.declared.places.SectionPos.{SectionPos}
use Rattle.fol_model.specs.declared.grids.Grid.{Grid}
use Rattle.fol_model.specs.declared.regions.State.TheVariants.{Dead}
use Rattle.fol_model.specs.GridState.{GridState, is_ticking}
use Rattle.fol_model.specs.Add.{target}
use Rattle.fol_pages.specs.Pages.{LieIn}
use Rattle.fol_region_tables.specs.Book.{Book, KeepsRoom, owner_of, state_of, waits_of, is_live, rows_of}
use Rattle.fol_regions.specs.Changes.{Changes, drawn_in, into}
use Rattle.fol_model.specs.Geometry.{is_among}

-- the state of the grid but for its holds
abbrev pub bare : Grid → Book → GridState
bare grid b = record { grid = grid; holds = λ c. 0; owner = owner_of b; state = state_of b; waits = waits_of b; next = b.next }

-- the id is one of the list
abbrev pub is_id : List ℕ → ℕ → Bool
is_id ids r = list_any (nat_eq r) ids

-- how many sections a region has that does not tick, and 0 where it ticks
unfoldable pub calm_size : Book → ℕ → ℕ
calm_size b r = if is_ticking (state_of b r) then 0 else length (rows_of b r)

-- of a list of regions the one with the greatest such number, the lowest id of several; 0 where all tick
pub record IsChoice (size : ℕ → ℕ) (ids : List ℕ) (best most : ℕ) : Type 0 where
  pub zero : best ≡ 0 → most ≡ 0
  pub here : 0 < best → (is_id ids best ≡ true) × ((most ≡ size best) × (0 < most))
  pub top : (q : ℕ) → is_id ids q ≡ true → size q ≤ most
  pub low : (q : ℕ) → is_id ids q ≡ true → size q ≡ most → 0 < most → best ≤ q

-- the region is to become part of the target
abbrev pub is_drawn : Book → ℕ → ℕ → Bool
is_drawn b t r = not (is_ticking (state_of b r)) && not (nat_eq r t)

-- those of a list that are to become part of the target have done so; it keeps its own pairs
pub record Gathers (old new : Book) (t : ℕ) (drawn : ℕ → Bool) (ids : List ℕ) : Type 0 where
  pub owner : owner_of new ≡ (λ s. if (is_id ids (owner_of old s) && drawn (owner_of old s)) then t else owner_of old s)
  pub state : state_of new ≡ (λ r. if (is_id ids r && drawn r) then Dead else state_of old r)
  pub waits : waits_of new ≡ (λ a b. if nat_eq a t then (waits_of old t b || list_any (λ u. drawn u && waits_of old u b) ids) else (not (is_id ids a && drawn a) && waits_of old a b))
  pub live : is_live new ≡ (λ r. not (is_id ids r && drawn r) && is_live old r)
  pub next : new.next ≡ old.next
  pub rooms : KeepsRoom old new

-- what such a step adds to a change
abbrev pub gathered : Changes → ℕ → (ℕ → Bool) → List ℕ → Changes
gathered c t drawn ids = record c { dead = c.dead ++ filter drawn ids; merges = c.merges ++ into t (filter drawn ids) }

-- the target waits for those of a list that tick
pub record Waits (old new : Book) (t : ℕ) (ids : List ℕ) : Type 0 where
  pub owner : owner_of new ≡ owner_of old
  pub state : state_of new ≡ state_of old
  pub waits : waits_of new ≡ (λ a b. if nat_eq a t then (waits_of old t b || (is_id ids b && is_ticking (state_of old b))) else waits_of old a b)
  pub live : is_live new ≡ is_live old
  pub next : new.next ≡ old.next
  pub free : new.free ≡ old.free
  pub ahead : total new.ahead ≤ total old.ahead + length ids
  pub behind : total new.behind ≤ total old.behind + length ids
  pub ahead_room : new.ahead.room ≡ old.ahead.room
  pub behind_room : new.behind.room ≡ old.behind.room

-- near, and does not tick
abbrev pub is_calm : Book → List ℕ → ℕ → Bool
is_calm b ids r = is_id ids r && not (is_ticking (state_of b r))

-- the sections of a list go to the target, and the regions that do not tick become part of it
pub record Grows (old new : Book) (ids : List ℕ) (sections : List SectionPos) (t : ℕ) : Type 0 where
  -- the target is the largest of them, the lowest id of several, or new where there is none
  pub choice : ((0 < t) × IsChoice (calm_size old) ids t (calm_size old t)) ⊎ ((t ≡ old.next) × ((r : ℕ) → is_calm old ids r ≡ false))
  pub owner : owner_of new ≡ (λ s. if (is_among sections s || is_calm old ids (owner_of old s)) then t else owner_of old s)
  pub state : (r : ℕ) → r ≢ t → state_of new r ≡ (if is_calm old ids r then Dead else state_of old r)
  pub waits : waits_of new ≡ (λ a b. if nat_eq a t then list_any (λ u. is_calm old ids u && waits_of old u b) ids else (not (is_calm old ids a) && waits_of old a b))
  pub still : is_ticking (state_of new t) ≡ false
  pub live : is_live new t ≡ true
  pub others : (r : ℕ) → is_ticking (state_of old r) ≡ true → (r ≢ t) × (is_live new r ≡ true)
  pub next : new.next ≡ (if nat_eq t old.next then old.next + 1 else old.next)
  pub free : (n : ℕ) → LieIn (is_among sections) n → old.free ≤ new.free + n
  pub ahead : total new.ahead ≤ total old.ahead
  pub behind : total new.behind ≤ total old.behind
  pub ahead_room : new.ahead.room ≡ old.ahead.room
  pub behind_room : new.behind.room ≡ old.behind.room

-- what an added hold that wants sections changes in which regions there are
abbrev pub extended_change : GridState → ChunkPos → Changes
extended_change g c = record {
  created = if nat_eq (target g c) g.next then (g.next ∷ []) else [];
  dead = drawn_in g c;
  merges = into (target g c) (drawn_in g c);
  parts = [];
}
