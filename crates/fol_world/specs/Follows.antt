-- What follows in the store and in the stack when a hold is added.
use Rattle.std.specs.Prelude.{ℕ, ◌≡◌, ◌+◌, ◌-◌, ◌≤◌, ◌<◌, ◌^◌, Bool, true, false, ◌||◌, ◌&&◌, not, filter, Option, Some, nat_eq, if◌then◌else◌, List, [], ◌∷◌, ◌++◌, ◌≢◌, ◌⊎◌, length, vec_len, vec_capacity, IsTrue}
use Rattle.std.specs.HashMap.{spare as room_in}
use Rattle.std.specs.List.Sorted.{IsStrictlySortedBy}
use Rattle.fol_model.specs.declared.places.ChunkPos.{ChunkPos}
use Rattle.fol_model.specs.declared.places.SectionPos.{SectionPos}
use Rattle.fol_model.specs.declared.grids.Grid.{Grid}
use Rattle.fol_model.specs.declared.events.Loaded.{Loaded}
use Rattle.fol_model.specs.declared.events.Loaded.TheVariants as loads
use Rattle.fol_model.specs.declared.events.Accept.{Accept}
use Rattle.fol_model.specs.declared.events.Accept.TheVariants as accept
use Rattle.fol_model.specs.declared.actions.Action.{Action}
use Rattle.fol_model.specs.ActionStep.{at_id}
use Rattle.fol_model.specs.Job.{Job, queued}
use Rattle.fol_model.specs.Geometry.{is_chunk, same_chunk, section_of}
use Rattle.fol_model.specs.GridState.{GridState, at_chunk, is_loaded, present_count}
use Rattle.fol_model.specs.Add.{add, is_full, wanted}
use Rattle.fol_model.specs.Universe.{all_chunks}
use Rattle.fol_model.specs.Outputs.{is_chunk_of}
use Rattle.fol_chunks.specs.Contents.{is_recorded}
use Rattle.fol_chunks.specs.Order.{chunk_cmp}
use Rattle.fol_model.specs.Drop.{drop_hold}
use Rattle.fol_sections.specs.Places.{count_at}
use Rattle.fol_regions.specs.Table.{grid_state}
use Rattle.fol_regions.specs.Changes.{Changes, add_change}
use Rattle.fol_regions.specs.declared.answers.AddAnswer.{AddAnswer}
use Rattle.fol_regions.specs.declared.answers.AddAnswer.TheVariants.{Changed, Counted, Full}
use Rattle.fol_regions.specs.Answers.{add_answer}
use Rattle.fol_regions.specs.declared.change.MergePair.{MergePair}
use Rattle.fol_store.specs.Bag.{Bag}
use Rattle.fol_bags.specs.Clear.{HasNoTask}
use Rattle.fol_store.specs.Stock.{Stock, bag_of, flat_of, jobs_of, next_of}
use Rattle.fol_world.specs.declared.tables.Tables.{Tables}
use Rattle.fol_world.specs.Bags.{Alike, AreInOrder, CanJoin, Follow, Joins, KeepsUp, joined_bags, opened_bags, unsettled_at}
use Rattle.fol_world.specs.Begun.{Gathered}
use Rattle.fol_world.specs.Agenda.{Covers, HaveBags, TopOwes}
use Rattle.fol_world.specs.Same.{SameThings}

-- the region that has a chunk more after an added hold of c, and 0 where c was held already
unfoldable pub gaining : Grid → GridState → ChunkPos → ℕ
gaining n g c = if is_loaded g c then 0 else (add g c).owner (section_of n c)

-- the region of the section s of c, which has a chunk less after a removed hold of c, and 0 where c had another number of holds than 1
unfoldable pub losing : SectionPos → GridState → ChunkPos → ℕ
losing s g c = if nat_eq (g.holds c) 1 then g.owner s else 0

-- the bags are these, but that each may be listed for the loaded chunks of its region
abbrev pub Settle : GridState → (ℕ → Bag) → (ℕ → Bag) → Type 0
Settle g f k = (r : ℕ) → Gathered g r (f r) (k r)

-- where the bag is listed, its chunks but for c are those of region r, but for those that it noted
abbrev pub Narrows : GridState → ChunkPos → ℕ → Bag → Type 0
Narrows g c r b = b.listed ≡ true → IsStrictlySortedBy chunk_cmp b.chunks × ((q : ChunkPos) → is_recorded b.since q ≡ false → (is_recorded b.chunks q && not (same_chunk c q)) ≡ is_recorded (filter (is_chunk_of g r) all_chunks) q)

-- where the bag is listed, its chunks and c are those of region r, but for those that it noted
abbrev pub Widens : GridState → ChunkPos → ℕ → Bag → Type 0
Widens g c r b = b.listed ≡ true → IsStrictlySortedBy chunk_cmp b.chunks × ((q : ChunkPos) → is_recorded b.since q ≡ false → (is_recorded b.chunks q || same_chunk c q) ≡ is_recorded (filter (is_chunk_of g r) all_chunks) q)

-- whether the hold was added
abbrev pub is_added : AddAnswer → Bool
is_added Counted = true
is_added Changed = true
is_added (Full present wanted) = false

-- the bag of region r is listed for its chunks, if for any, or, where the chunk c came to them, for the others
abbrev pub WidensWhere : Bool → GridState → ChunkPos → ℕ → Bag → Type 0
WidensWhere true g c r b = Widens g c r b
WidensWhere false g c r b = b.listed ≡ true → KeepsUp b (filter (is_chunk_of g r) all_chunks)

-- the region r, if it is one, has the chunk c more where the hold was added, and its bag can follow
abbrev pub CanGain : AddAnswer → GridState → ChunkPos → ℕ → Bag → Type 0
CanGain a g c r b = 0 < r → WidensWhere (is_added a) g c r b

-- the region r of a chunk c that is held once has a bag that is listed for its chunks, if for any
abbrev pub CanLose : GridState → ChunkPos → ℕ → (ℕ → Bag) → Type 0
CanLose g c r f = 0 < r → nat_eq (g.holds c) 1 ≡ true → Narrows (drop_hold g c) c r (f r)

-- where the chunk has a ticket, and no other hold, none of the tasks is on it
abbrev pub CanDrop : GridState → (ChunkPos → ℕ) → (ℕ → Option Job) → ChunkPos → Type 0
CanDrop g tickets jobs c = 0 < tickets c → nat_eq (g.holds c) 1 ≡ true → HasNoTask c jobs

-- the new regions come, and then some join
abbrev pub changed_bags : Changes → (ℕ → Bag) → ℕ → Bag
changed_bags ch f = joined_bags ch.merges (opened_bags 0 0 ch.created f)

-- the new regions come, and then some join, whose bags may be listed for the chunks of all that joined
abbrev pub ChangesTo : Changes → (ℕ → Bag) → (ℕ → Bag) → Type 0
ChangesTo ch f h = Joins ch.merges (opened_bags 0 0 ch.created f) h

-- the region r, if it is one, has other chunks, too
abbrev pub followed : ℕ → Changes → (ℕ → Bag) → ℕ → Bag
followed r ch f = unsettled_at r (changed_bags ch f)

-- the region that others joined
abbrev pub target_in : List MergePair → List ℕ
target_in [] = []
target_in (m ∷ ms) = m.into ∷ []

-- the region r has its bag in the store or with a worker
abbrev pub IsKnown : (ℕ → Bag) → ℕ → Type 0
IsKnown f r = 0 < r → ((f r).here || (f r).taken) ≡ true

-- the bags h stand for the bags f in the grid g, but that the region r, if it is one, has the chunk c more, where that was not held
pub record CanSettle (held : Bool) (a : AddAnswer) (g : GridState) (c : ChunkPos) (r : ℕ) (f h : ℕ → Bag) : Type 0 where
  pub known : IsKnown h r
  pub others : (u : ℕ) → (held ≡ true) ⊎ (0 < r → u ≢ r) → Gathered g u (f u) (h u)
  pub own : Alike (f r) (h r)
  pub near : held ≡ false → CanGain a g c r (h r)

-- the bags can follow a change
pub record CanFollow (k : Stock) (ch : Changes) : Type 0 where
  pub follow : Follow (next_of k) ch.created
  pub slots : length ch.created ≤ k.slots
  pub joins : CanJoin ch.merges (opened_bags 0 0 ch.created (bag_of k))
  pub order : AreInOrder (bag_of k)

-- the stack can follow to the grid h
pub record CanCover (xs : List ℕ) (h : GridState) (ch : Changes) (f : ℕ → Bag) : Type 0 where
  pub bags : HaveBags h f
  pub covers : Covers (xs ++ target_in ch.merges) h f

-- there is memory for an added hold of c, and bags and stack can follow it
pub record CanHold (t : Tables) (c : ChunkPos) : Type 0 where
  pub in_range : IsTrue (is_chunk c)
  pub spare : 1 ≤ t.regions.spare
  pub few : (grid_state t.regions).holds c < 2 ^ 62
  pub few_ids : (grid_state t.regions).next < 2 ^ 62
  pub few_tickets : count_at t.tickets.entries c < 2 ^ 62
  pub bags : CanFollow t.store (add_change (grid_state t.regions) c)
  pub settles : (h : ℕ → Bag) → ChangesTo (add_change (grid_state t.regions) c) (bag_of t.store) h
      → CanSettle (is_loaded (grid_state t.regions) c) (add_answer (grid_state t.regions) c) (add (grid_state t.regions) c) c ((add (grid_state t.regions) c).owner (section_of t.grid c)) (changed_bags (add_change (grid_state t.regions) c) (bag_of t.store)) h
  pub covers : CanCover t.agenda.items (add (grid_state t.regions) c) (add_change (grid_state t.regions) c) (followed (gaining t.grid (grid_state t.regions) c) (add_change (grid_state t.regions) c) (bag_of t.store))
  pub room : vec_len t.agenda < vec_capacity t.agenda
  pub tickets : 1 ≤ room_in t.tickets

-- the hold was counted, and bags and stack followed; tickets are not said. The top of the stack owes a tick if it did before
pub record Holds (old new : Tables) (c : ChunkPos) : Type 0 where
  pub grid : new.grid ≡ old.grid
  pub regions : grid_state new.regions ≡ add (grid_state old.regions) c
  pub bags : Settle (grid_state new.regions) (followed (gaining old.grid (grid_state old.regions) c) (add_change (grid_state old.regions) c) (bag_of old.store)) (bag_of new.store)
  pub things : SameThings old.store new.store
  pub next : next_of new.store ≡ next_of old.store + length (add_change (grid_state old.regions) c).created
  pub spare : old.store.spare ≤ new.store.spare
  pub covers : Covers new.agenda.items (grid_state new.regions) (bag_of new.store)
  pub top : TopOwes old.agenda.items (grid_state old.regions) (bag_of old.store) → TopOwes new.agenda.items (grid_state new.regions) (bag_of new.store)
  pub course : new.course ≡ old.course

abbrev pub load_answer_in : GridState → ChunkPos → Loaded
load_answer_in g c = if is_full g c then loads.Full (present_count g) (wanted g c) else loads.Counted

-- one ticket more, unless the chunk can't be held
abbrev pub tickets_after : Bool → (ChunkPos → ℕ) → ChunkPos → ChunkPos → ℕ
tickets_after full tickets c q = if full then tickets q else (if same_chunk c q then tickets c + 1 else tickets q)

-- a ticket and a removed hold, unless there was none
pub record Drops (old new : Tables) (c : ChunkPos) (none : Bool) : Type 0 where
  pub grid : new.grid ≡ old.grid
  pub regions : grid_state new.regions ≡ (if none then grid_state old.regions else drop_hold (grid_state old.regions) c)
  pub bags : Settle (grid_state new.regions) (if none then bag_of old.store else unsettled_at (losing (section_of old.grid c) (grid_state old.regions) c) (bag_of old.store)) (bag_of new.store)
  pub things : SameThings old.store new.store
  pub next : next_of new.store ≡ next_of old.store
  pub tickets : (q : ChunkPos) → count_at new.tickets.entries q ≡ at_chunk (count_at old.tickets.entries) c (count_at old.tickets.entries c - 1) q
  pub agenda : new.agenda.items ≡ old.agenda.items
  pub course : new.course ≡ old.course

abbrev pub accept_in : GridState → ℕ → ChunkPos → Accept
accept_in g n c = if is_full g c then accept.Full (present_count g) (wanted g c) else accept.Posted n

-- a task was accepted on a chunk that is held once more
pub record Posts (old new : Tables) (c : ChunkPos) (d : ℕ) (a : Action) : Type 0 where
  pub grid : new.grid ≡ old.grid
  pub regions : grid_state new.regions ≡ add (grid_state old.regions) c
  pub bags : Settle (grid_state new.regions) (followed (gaining old.grid (grid_state old.regions) c) (add_change (grid_state old.regions) c) (bag_of old.store)) (bag_of new.store)
  pub flat : flat_of new.store ≡ flat_of old.store
  pub jobs : jobs_of new.store ≡ at_id (jobs_of old.store) old.course.next_job (Some (queued c d a))
  pub next : next_of new.store ≡ next_of old.store + length (add_change (grid_state old.regions) c).created
  pub tickets : new.tickets.entries ≡ old.tickets.entries
  pub covers : Covers new.agenda.items (grid_state new.regions) (bag_of new.store)
  pub top : TopOwes old.agenda.items (grid_state old.regions) (bag_of old.store) → TopOwes new.agenda.items (grid_state new.regions) (bag_of new.store)
  pub course : new.course ≡ record old.course { next_job = old.course.next_job + 1 }

-- where the chunk can't be held nothing has changed but for the bags that have to be gathered anew
abbrev pub PostsUnless : Bool → Tables → Tables → ChunkPos → ℕ → Action → Type 0
PostsUnless true old new c d a = Holds old new c × (new.tickets.entries ≡ old.tickets.entries)
PostsUnless false old new c d a = Posts old new c d a
