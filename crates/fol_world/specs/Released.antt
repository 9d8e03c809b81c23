-- How the bags of the store follow a release.
use Rattle.std.specs.Prelude.{ℕ, ◌≡◌, ◌+◌, ◌≤◌, ◌<◌, ◌^◌, true, false, ◌||◌, List, [], ◌∷◌, ◌++◌, ◌≢◌, filter, length, nat_eq, nat_lt, vec_len, vec_capacity, Bool, IsTrue, ◌&&◌, if◌then◌else◌}
use Rattle.std.specs.List.{list_any}
use Rattle.std.specs.Option.{ForSome, is_none, option_or}
use Rattle.fol_model.specs.declared.regions.State.TheVariants.{Ticking}
use Rattle.fol_model.specs.declared.tasks.Task.{Task}
use Rattle.fol_model.specs.declared.places.ChunkPos.{ChunkPos}
use Rattle.fol_model.specs.ActionStep.{at_id}
use Rattle.fol_model.specs.Geometry.{section_of}
use Rattle.fol_model.specs.GridState.{GridState, is_dead, is_loaded}
use Rattle.fol_model.specs.Release.{release}
use Rattle.fol_model.specs.Rules.{Rules}
use Rattle.fol_model.specs.Outputs.{is_chunk_of}
use Rattle.fol_model.specs.Universe.{all_chunks}
use Rattle.fol_regions.specs.Changes.{Changes, release_change}
use Rattle.fol_store.specs.Bag.{Bag, new_bag, no_bag, put_back}
use Rattle.fol_store.specs.Stock.{Stock, bag_of, flat_of, jobs_of, next_of}
use Rattle.fol_end_laws.specs.DroppedHolds.{drop_each}
use Rattle.fol_chunks.specs.Contents.{Apart, flat_of as contents_of, is_recorded, joined, within}
use Rattle.fol_queues.specs.Waiting.{dated}
use Rattle.fol_data.specs.declared.region_data.RegionData.{RegionData}
use Rattle.fol_data.specs.Rests.{IsInTime, rests_of}
use Rattle.fol_regions.specs.Table.{grid_state}
use Rattle.fol_world.specs.declared.tables.Tables.{Tables}
use Rattle.fol_world.specs.Same.{SameThings}
use Rattle.fol_world.specs.Agenda.{Covers, GrowsBy, HaveBags, IsAgenda}
use Rattle.fol_world.specs.Bags.{AreInOrder, CanJoin, Follow, Joins, KeepsUp, joined_bags}
use Rattle.fol_world.specs.CatchingUp.{AreHeld}
use Rattle.fol_world.specs.Follows.{Settle}

-- of a part: it has the numbers of the region that fell apart, and nothing was gathered for it
abbrev pub part_bag : ℕ → ℕ → Bag
part_bag tick owed = record (new_bag tick owed) { listed = false }

abbrev pub opened_parts : ℕ → ℕ → List ℕ → (ℕ → Bag) → ℕ → Bag
opened_parts tick owed [] f = f
opened_parts tick owed (x ∷ xs) f = opened_parts tick owed xs (at_id f x (part_bag tick owed))

-- the regions of these ids are parts of the region r, whose bag is here still: each has a bag with its numbers, for which nothing was gathered
pub record AreFresh (r : ℕ) (ids : List ℕ) (f : ℕ → Bag) : Type 0 where
  pub here : (f r).here ≡ true
  pub first : ℕ
  pub follow : Follow first ids
  pub below : r < first
  pub fresh : (q : ℕ) → list_any (nat_eq q) ids ≡ true → f q ≡ part_bag (f r).tick (f r).owed

-- the chunk is in a section of the region
abbrev pub is_within : GridState → ℕ → ChunkPos → Bool
is_within g r c = nat_eq (g.owner (section_of g.grid c)) r

-- those of the chunks that are in sections of the region are its loaded chunks, in order
abbrev pub HasChunksOf : GridState → List ChunkPos → ℕ → Type 0
HasChunksOf g chunks r = filter (is_within g r) chunks ≡ filter (is_chunk_of g r) all_chunks

-- a loaded chunk of one of these regions
abbrev pub is_chunk_among : GridState → List ℕ → ChunkPos → Bool
is_chunk_among g ids c = nat_lt 0 (g.holds c) && list_any (nat_eq (g.owner (section_of g.grid c))) ids

-- the bag is at home and notes no chunk, and where it is listed, its chunks are the loaded ones of these regions
pub record HasChunksOfAll (g : GridState) (ids : List ℕ) (b : Bag) : Type 0 where
  pub home : b.taken ≡ false
  pub since : b.since ≡ []
  pub listed : b.listed ≡ true → b.chunks ≡ filter (is_chunk_among g ids) all_chunks

-- of a region that ticked: it came back with these numbers, and has to be gathered anew
abbrev pub returned_bag : ℕ → ℕ → Bag → Bag
returned_bag tick owed b = record (put_back tick owed b) { listed = false; since = [] }

-- the bag b of the region r came back with these numbers, and is listed for the loaded chunks of the region, if for any
pub record IsReturned (g : GridState) (r tick owed : ℕ) (b : Bag) : Type 0 where
  pub here : b.here ≡ true
  pub taken : b.taken ≡ false
  pub counter : b.tick ≡ tick
  pub owes : b.owed ≡ owed
  pub listed : b.listed ≡ true → b.chunks ≡ filter (is_chunk_of g r) all_chunks
  pub since : b.since ≡ []

-- the bag of r came back with these numbers, and the regions that waited for r join it
abbrev pub rejoined : Changes → ℕ → ℕ → ℕ → (ℕ → Bag) → ℕ → Bag
rejoined ch r tick owed f = joined_bags ch.merges (at_id f r (returned_bag tick owed (f r)))

-- r is over, and its parts begin with its numbers
abbrev pub parted : List ℕ → ℕ → (ℕ → Bag) → ℕ → Bag
parted ids r f = opened_parts (f r).tick (f r).owed ids (at_id f r no_bag)

-- the region r, whose bag came back among f, is over and its parts begin, where that is so in the grid h
abbrev pub parted_in : GridState → Changes → ℕ → (ℕ → Bag) → ℕ → Bag
parted_in h ch r f = if is_dead (h.state r) then parted ch.parts r f else f

-- after the release of r, which led to the grid h by this change
abbrev pub released_bags : GridState → Changes → ℕ → ℕ → ℕ → (ℕ → Bag) → ℕ → Bag
released_bags h ch r tick owed f = parted_in h ch r (rejoined ch r tick owed f)

-- the parts of r, where r is over
abbrev pub parts_in : GridState → Changes → ℕ → List ℕ
parts_in h ch r = if is_dead (h.state r) then ch.parts else []

-- the regions that may owe a tick after a release of r: r itself, or its parts
abbrev pub heirs : GridState → Changes → ℕ → List ℕ
heirs h ch r = if is_dead (h.state r) then ch.parts else (r ∷ [])

-- bags and stack can follow the release of r, which comes back with these numbers
pub record CanRelease (k : Stock) (xs : List ℕ) (g : GridState) (r tick owed : ℕ) : Type 0 where
  pub joins : (b : Bag) → IsReturned g r tick owed b → CanJoin (release_change g r).merges (at_id (bag_of k) r b)
  pub order : (b : Bag) → IsReturned g r tick owed b → AreInOrder (at_id (bag_of k) r b)
  pub settles : (b : Bag) → IsReturned g r tick owed b → (h : ℕ → Bag) → Joins (release_change g r).merges (at_id (bag_of k) r b) h
      → ((h r).here ≡ true) × Settle (release g r) (released_bags (release g r) (release_change g r) r tick owed (bag_of k)) (parted_in (release g r) (release_change g r) r h)
  pub lists : (b : Bag) → IsReturned g r tick owed b → (h : ℕ → Bag) → Joins (release_change g r).merges (at_id (bag_of k) r b) h
      → is_dead ((release g r).state r) ≡ true → HasChunksOfAll (release g r) (release_change g r).parts (h r)
  pub follow : Follow (next_of k) (parts_in (release g r) (release_change g r) r)
  pub slots : length (parts_in (release g r) (release_change g r) r) ≤ k.slots
  pub bags : HaveBags (release g r) (released_bags (release g r) (release_change g r) r tick owed (bag_of k))
  pub covers : Covers (xs ++ heirs (release g r) (release_change g r) r) (release g r) (released_bags (release g r) (release_change g r) r tick owed (bag_of k))

-- the bag of r, which a worker has, may note chunks or have to be gathered anew; where it has not, the chunks that it has not noted are
-- loaded where they were
pub record Loosens (g h : GridState) (r : ℕ) (f k : ℕ → Bag) : Type 0 where
  pub others : (u : ℕ) → u ≢ r → k u ≡ f u
  pub own : k r ≡ record (f r) { listed = (k r).listed; calm = (k r).calm; since = (k r).since }
  pub kept : (k r).listed ≡ true → (f r).listed ≡ true
  pub noted : (k r).listed ≡ true → (c : ChunkPos) → is_recorded (k r).since c ≡ false → is_recorded (f r).since c ≡ false
  pub loaded : (k r).listed ≡ true → (c : ChunkPos) → is_recorded (k r).since c ≡ false → is_loaded h c ≡ is_loaded g c

-- what a worker has of the region can come back: these are its chunks, and this is its data
pub record CanComeBack (t : Tables) (r : ℕ) (places : List ChunkPos) (body : RegionData) : Type 0 where
  pub ticks : (grid_state t.regions).state r ≡ Ticking
  pub out : (bag_of t.store r).taken ≡ true
  pub chunks : places ≡ (bag_of t.store r).chunks
  pub grid : t.grid ≡ (grid_state t.regions).grid
  pub follows : (bag_of t.store r).listed ≡ true → KeepsUp (bag_of t.store r) (filter (is_chunk_of (grid_state t.regions) r) all_chunks)
  pub bound : body.tick ≤ 2 ^ 62
  pub in_time : (n : ℕ) → ForSome (dated body.queues n) (IsInTime body.tick)
  pub contents_there : contents_of body.chunks ≡ within (is_recorded places) (contents_of body.chunks)
  pub tasks_there : (n : ℕ) → ForSome (rests_of body n) (λ j. is_recorded places j.chunk ≡ true)
  pub contents_apart : Apart (flat_of t.store) (contents_of body.chunks)
  pub tasks_apart : (n : ℕ) → IsTrue (is_none (jobs_of t.store n) || is_none (rests_of body n))
  pub held : AreHeld (grid_state t.regions) (λ n. option_or (jobs_of t.store n) (rests_of body n))

-- the region can be released: these are its chunks, and this is what comes back
pub record CanEnd (t : Tables) (r : ℕ) (places : List ChunkPos) (body : RegionData) : Type 0 where
  pub comes : CanComeBack t r places body
  pub spare : 1 ≤ t.regions.spare
  pub few_ids : (grid_state t.regions).next < 2 ^ 62
  pub rules : Rules (grid_state t.regions)
  pub can : CanRelease t.store t.agenda.items (grid_state t.regions) r body.tick body.owed
  pub room : vec_len t.agenda + length (heirs (release (grid_state t.regions) r) (release_change (grid_state t.regions) r) r) ≤ vec_capacity t.agenda

-- what came back lies in the store, and the bag of the region is back
pub record BringsBack (old new : Tables) (r : ℕ) (body : RegionData) : Type 0 where
  pub regions : new.regions ≡ old.regions
  pub contents : flat_of new.store ≡ joined (flat_of old.store) (contents_of body.chunks)
  pub tasks : jobs_of new.store ≡ λ n. option_or (jobs_of old.store n) (rests_of body n)
  pub own : IsReturned (grid_state old.regions) r body.tick body.owed (bag_of new.store r)
  pub bags : bag_of new.store ≡ at_id (bag_of old.store) r (bag_of new.store r)
  pub next : next_of new.store ≡ next_of old.store
  pub slots : old.store.slots ≤ new.store.slots
  pub grid : new.grid ≡ old.grid
  pub tickets : new.tickets ≡ old.tickets
  pub agenda : new.agenda ≡ old.agenda
  pub course : new.course ≡ old.course

-- the region can be released, once its bag is back: whatever joins, the bags are these then, but that each may be listed
pub record MayRelease (t : Tables) (r : ℕ) : Type 0 where
  pub ticks : (grid_state t.regions).state r ≡ Ticking
  pub grid : t.grid ≡ (grid_state t.regions).grid
  pub spare : 1 ≤ t.regions.spare
  pub few_ids : (grid_state t.regions).next < 2 ^ 62
  pub after : ℕ → Bag
  pub joins : CanJoin (release_change (grid_state t.regions) r).merges (bag_of t.store)
  pub order : AreInOrder (bag_of t.store)
  pub settles : (h : ℕ → Bag) → Joins (release_change (grid_state t.regions) r).merges (bag_of t.store) h
      → ((h r).here ≡ true) × Settle (release (grid_state t.regions) r) after (parted_in (release (grid_state t.regions) r) (release_change (grid_state t.regions) r) r h)
  pub lists : (h : ℕ → Bag) → Joins (release_change (grid_state t.regions) r).merges (bag_of t.store) h
      → is_dead ((release (grid_state t.regions) r).state r) ≡ true → HasChunksOfAll (release (grid_state t.regions) r) (release_change (grid_state t.regions) r).parts (h r)
  pub follow : Follow (next_of t.store) (parts_in (release (grid_state t.regions) r) (release_change (grid_state t.regions) r) r)
  pub slots : length (parts_in (release (grid_state t.regions) r) (release_change (grid_state t.regions) r) r) ≤ t.store.slots
  pub bags : HaveBags (release (grid_state t.regions) r) after
  pub covers : Covers (t.agenda.items ++ heirs (release (grid_state t.regions) r) (release_change (grid_state t.regions) r) r) (release (grid_state t.regions) r) after
  pub room : vec_len t.agenda + length (heirs (release (grid_state t.regions) r) (release_change (grid_state t.regions) r) r) ≤ vec_capacity t.agenda

-- the region was released
pub record Releases (old new : Tables) (r : ℕ) : Type 0 where
  pub regions : grid_state new.regions ≡ release (grid_state old.regions) r
  pub things : SameThings old.store new.store
  pub bags : (f : ℕ → Bag) → ((h : ℕ → Bag) → Joins (release_change (grid_state old.regions) r).merges (bag_of old.store) h
      → ((h r).here ≡ true) × Settle (release (grid_state old.regions) r) f (parted_in (release (grid_state old.regions) r) (release_change (grid_state old.regions) r) r h))
      → Settle (release (grid_state old.regions) r) f (bag_of new.store)
  pub next : next_of new.store ≡ next_of old.store + length (parts_in (release (grid_state old.regions) r) (release_change (grid_state old.regions) r) r)
  pub agenda : IsAgenda new.agenda.items (grid_state new.regions) (bag_of new.store)
  pub stack : GrowsBy (length (heirs (release (grid_state old.regions) r) (release_change (grid_state old.regions) r) r)) old.agenda new.agenda
  pub grid : new.grid ≡ old.grid
  pub tickets : new.tickets ≡ old.tickets
  pub course : new.course ≡ old.course

-- the region was released, and what came back lies in the store
pub record EndsRegion (old new : Tables) (r : ℕ) (body : RegionData) : Type 0 where
  pub regions : grid_state new.regions ≡ release (grid_state old.regions) r
  pub contents : flat_of new.store ≡ joined (flat_of old.store) (contents_of body.chunks)
  pub tasks : jobs_of new.store ≡ λ n. option_or (jobs_of old.store n) (rests_of body n)
  pub bags : Settle (release (grid_state old.regions) r) (released_bags (release (grid_state old.regions) r) (release_change (grid_state old.regions) r) r body.tick body.owed (bag_of old.store)) (bag_of new.store)
  pub next : next_of new.store ≡ next_of old.store + length (parts_in (release (grid_state old.regions) r) (release_change (grid_state old.regions) r) r)
  pub agenda : IsAgenda new.agenda.items (grid_state new.regions) (bag_of new.store)
  pub stack : GrowsBy (length (heirs (release (grid_state old.regions) r) (release_change (grid_state old.regions) r) r)) old.agenda new.agenda
  pub grid : new.grid ≡ old.grid
  pub tickets : new.tickets ≡ old.tickets
  pub course : new.course ≡ old.course

-- the holds of these tasks were dropped, of which the region r had the chunks
pub record DropsHolds (old new : Tables) (r : ℕ) (due : List Task) : Type 0 where
  pub regions : grid_state new.regions ≡ drop_each (grid_state old.regions) due
  pub bags : Loosens (grid_state old.regions) (grid_state new.regions) r (bag_of old.store) (bag_of new.store)
  pub things : SameThings old.store new.store
  pub next : next_of new.store ≡ next_of old.store
  pub spare : new.regions.spare ≡ old.regions.spare
  pub tasks : old.store.spare ≤ new.store.spare
  pub slots : old.store.slots ≤ new.store.slots
  pub grid : new.grid ≡ old.grid
  pub tickets : new.tickets ≡ old.tickets
  pub agenda : new.agenda ≡ old.agenda
  pub course : new.course ≡ old.course
