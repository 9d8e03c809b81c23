-- What the tables of the regions say: who owns each section, what each region may do, which region waits for which, and the lists of each.
use Rattle.std.specs.Prelude.{◌≡◌, ◌≢◌, [], ℕ, ℤ, ◌+◌, ◌<◌, ◌≤◌, Bool, true, not, ◌&&◌, ◌||◌, nat_eq, nat_lt, if◌then◌else◌, List, filter, length}
use Rattle.std.specs.List.{list_any}
use Rattle.fol_lists.specs.Numbered.{Numbered, list_at, total}
use Rattle.fol_model.specs.declared.places.TheConstants.{MOST_SECTIONS}
use Rattle.fol_model.specs.declared.places.SectionPos.{SectionPos}
use Rattle.fol_model.specs.declared.regions.State.{State}
use Rattle.fol_model.specs.declared.regions.State.TheVariants.{Dead}
use Rattle.fol_model.specs.Geometry.{is_section, is_among}
use Rattle.fol_model.specs.GridState.{with_state}
use Rattle.fol_model.specs.Universe.{all_sections, count_sections, numbers_below}
use Rattle.fol_region_tables.specs.Slots.{SlotTable, slot_of, slot_state}
use Rattle.fol_pages.specs.Pages.{LieIn}
use Rattle.fol_region_tables.specs.Owners.{owner_in}
use Rattle.fol_region_tables.specs.declared.pages.OwnerPage.{OwnerPage}

pub record Book : Type 0 where
  -- the region of each present section, by page
  pub owned : List ((ℤ × ℤ) × OwnerPage)
  -- how many pages of sections more there is memory for
  pub free : ℕ
  pub slots : SlotTable
  -- by slot: the sections of the region, the regions that it waits for, and those that wait for it
  pub rows : Numbered SectionPos
  pub ahead : Numbered ℕ
  pub behind : Numbered ℕ
  -- the next id
  pub next : ℕ

unfoldable pub owner_of : Book → SectionPos → ℕ
owner_of b s = owner_in b.owned s

unfoldable pub state_of : Book → ℕ → State
state_of b r = slot_state b.slots r

-- the region has a slot
unfoldable pub is_live : Book → ℕ → Bool
is_live b r = nat_lt (slot_of b.slots r) b.slots.room

unfoldable pub rows_of : Book → ℕ → List SectionPos
rows_of b r = list_at b.rows (slot_of b.slots r)

unfoldable pub ahead_of : Book → ℕ → List ℕ
ahead_of b u = list_at b.ahead (slot_of b.slots u)

unfoldable pub behind_of : Book → ℕ → List ℕ
behind_of b t = list_at b.behind (slot_of b.slots t)

unfoldable pub waits_of : Book → ℕ → ℕ → Bool
waits_of b u t = list_any (nat_eq t) (ahead_of b u)

-- there is memory for so many pages of sections and pairs more
pub record HasRoomFor (b : Book) (more pairs : ℕ) : Type 0 where
  pub pages : more ≤ b.free
  pub ahead : total b.ahead + pairs ≤ b.ahead.room
  pub behind : total b.behind + pairs ≤ b.behind.room

-- the lists agree with each other
pub record IsBook (b : Book) : Type 0 where
  -- a region's list has its sections, in order
  pub rows : (r : ℕ) → 0 < r → rows_of b r ≡ filter (λ s. nat_eq (owner_of b s) r) all_sections
  pub limits : (s : SectionPos) → 0 < owner_of b s → is_section s ≡ true
  -- pairs stand on both sides, in order of id
  pub ahead : (u : ℕ) → ahead_of b u ≡ filter (waits_of b u) (numbers_below b.next)
  pub behind : (t : ℕ) → behind_of b t ≡ filter (λ u. waits_of b u t) (numbers_below b.next)
  pub given : (r : ℕ) → is_live b r ≡ true → (0 < r) × (r < b.next)
  -- a region with a slot has a section
  pub some : (r : ℕ) → is_live b r ≡ true → 0 < length (rows_of b r)
  pub next : 0 < b.next
  -- a slot of no region has empty lists
  pub unused : (k : ℕ) → ((q : ℕ) → slot_of b.slots q ≢ k) → (list_at b.rows k ≡ []) × ((list_at b.ahead k ≡ []) × (list_at b.behind k ≡ []))
  -- a list for each slot
  pub row_numbers : length b.rows.lists ≡ b.slots.room
  pub ahead_numbers : length b.ahead.lists ≡ b.slots.room
  pub behind_numbers : length b.behind.lists ≡ b.slots.room
  pub ahead_fits : total b.ahead ≤ b.ahead.room
  pub behind_fits : total b.behind ≤ b.behind.room
  -- as many sections as have an owner
  pub total : total b.rows ≡ count_sections (λ s. nat_lt 0 (owner_of b s))
  pub row_room : b.rows.room ≡ MOST_SECTIONS
  pub room : MOST_SECTIONS ≤ b.slots.room

-- ---- what the steps of the tables change
-- the same sections, states and pairs
pub record IsAlike (old new : Book) : Type 0 where
  pub owner : owner_of new ≡ owner_of old
  pub state : state_of new ≡ state_of old
  pub waits : waits_of new ≡ waits_of old
  pub live : is_live new ≡ is_live old
  pub next : new.next ≡ old.next

-- no room is used
pub record KeepsRoom (old new : Book) : Type 0 where
  pub free : old.free ≤ new.free
  pub ahead : total new.ahead ≤ total old.ahead
  pub behind : total new.behind ≤ total old.behind
  pub ahead_room : new.ahead.room ≡ old.ahead.room
  pub behind_room : new.behind.room ≡ old.behind.room

-- another state of one region
pub record SetsState (old new : Book) (r : ℕ) (value : State) : Type 0 where
  pub owner : owner_of new ≡ owner_of old
  pub state : state_of new ≡ with_state (state_of old) r value
  pub waits : waits_of new ≡ waits_of old
  pub live : is_live new ≡ is_live old
  pub next : new.next ≡ old.next
  pub rooms : KeepsRoom old new

-- the pairs, with the pair of two regions there or not
abbrev pub with_pair : (ℕ → ℕ → Bool) → ℕ → ℕ → Bool → ℕ → ℕ → Bool
with_pair waits u t there a b = if (nat_eq u a && nat_eq t b) then there else waits a b

-- the pair of two regions comes or goes
pub record SetsPair (old new : Book) (u t : ℕ) (there : Bool) : Type 0 where
  pub owner : owner_of new ≡ owner_of old
  pub state : state_of new ≡ state_of old
  pub waits : waits_of new ≡ with_pair (waits_of old) u t there
  pub live : is_live new ≡ is_live old
  pub next : new.next ≡ old.next

-- the pairs after u was merged into t: t waits for what u waited for, but not for itself, and u for none
abbrev pub merged_waits : (ℕ → ℕ → Bool) → ℕ → ℕ → ℕ → ℕ → Bool
merged_waits waits u t a b = if nat_eq a t then (not (nat_eq b t) && (waits t b || waits u b)) else (not (nat_eq a u) && waits a b)

-- the pairs after t waits for v in place of u, but not for itself
abbrev pub handed_waits : (ℕ → ℕ → Bool) → ℕ → ℕ → ℕ → ℕ → ℕ → Bool
handed_waits waits u t v a b = if nat_eq a u then (not (nat_eq v b) && waits u b) else (if nat_eq a t then ((not (nat_eq v t) && nat_eq v b) || waits t b) else waits a b)

-- t waits for v in place of u
pub record HandsOne (old new : Book) (u t v : ℕ) : Type 0 where
  pub owner : owner_of new ≡ owner_of old
  pub state : state_of new ≡ state_of old
  pub waits : waits_of new ≡ handed_waits (waits_of old) u t v
  pub live : is_live new ≡ is_live old
  pub next : new.next ≡ old.next
  pub rooms : KeepsRoom old new

-- t waits in place of u
pub record HandsOn (old new : Book) (u t : ℕ) : Type 0 where
  pub owner : owner_of new ≡ owner_of old
  pub state : state_of new ≡ state_of old
  pub waits : waits_of new ≡ merged_waits (waits_of old) u t
  pub live : is_live new ≡ is_live old
  pub next : new.next ≡ old.next
  pub rooms : KeepsRoom old new

-- u became part of t
pub record Merges (old new : Book) (u t : ℕ) : Type 0 where
  pub owner : owner_of new ≡ (λ s. if nat_eq (owner_of old s) u then t else owner_of old s)
  pub state : state_of new ≡ with_state (state_of old) u Dead
  pub waits : waits_of new ≡ merged_waits (waits_of old) u t
  pub live : is_live new ≡ (λ r. not (nat_eq r u) && is_live old r)
  pub next : new.next ≡ old.next
  pub rooms : KeepsRoom old new

-- the sections of a list, which had no owner, are t's
pub record Gives (old new : Book) (sections : List SectionPos) (t : ℕ) : Type 0 where
  pub owner : owner_of new ≡ (λ s. if is_among sections s then t else owner_of old s)
  pub state : state_of new ≡ state_of old
  pub waits : waits_of new ≡ waits_of old
  pub live : is_live new ≡ is_live old
  pub next : new.next ≡ old.next
  -- it takes no more than the pages that the sections lie in
  pub free : (n : ℕ) → LieIn (is_among sections) n → old.free ≤ new.free + n

-- a region with the next id, which has the sections of a list, which had no owner
pub record Makes (old new : Book) (sections : List SectionPos) (value : State) : Type 0 where
  pub owner : owner_of new ≡ (λ s. if is_among sections s then old.next else owner_of old s)
  pub state : state_of new ≡ with_state (state_of old) old.next value
  pub waits : waits_of new ≡ waits_of old
  pub live : is_live new ≡ (λ r. nat_eq r old.next || is_live old r)
  pub next : new.next ≡ old.next + 1
  -- it takes no more than the pages that the sections lie in
  pub free : (n : ℕ) → LieIn (is_among sections) n → old.free ≤ new.free + n
