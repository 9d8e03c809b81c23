-- What the rows of a closing are made of.
use Rattle.std.specs.Prelude.{ℕ, ◌≡◌, ◌<◌, true, Bool, not, nat_eq, List, [], ◌∷◌, ◌++◌, map, filter, flat_map, Option, Some, None}
use Rattle.std.specs.List.{AllByRecursion, list_any}
use Rattle.std.specs.List.Sorted.{IsStrictlySortedBy}
use Rattle.std.specs.Map.{update_all}
use Rattle.std.specs.BTreeMap.{BTreeMap, get}
use Rattle.std.specs.Ordering.{eq_by_cmp}
use Rattle.std.specs.declared.cmp.Ordering.{Ordering}
use Rattle.fol_model.specs.declared.places.SectionPos.{SectionPos}
use Rattle.fol_model.specs.declared.entities.Entity.{Entity}
use Rattle.fol_model.specs.declared.entities.Place.{Place}
use Rattle.fol_model.specs.declared.entities.Place.TheVariants.{At, Transit}
use Rattle.fol_model.specs.declared.actions.Action.{Action}
use Rattle.fol_model.specs.declared.actions.Action.TheVariants as action
use Rattle.fol_model.specs.declared.openings.BlockAt.{BlockAt}
use Rattle.fol_model.specs.declared.closings.RegionRow.{RegionRow}
use Rattle.fol_model.specs.declared.closings.OwnerRow.{OwnerRow}
use Rattle.fol_model.specs.declared.closings.TaskRow.{TaskRow}
use Rattle.fol_model.specs.declared.closings.EntityRow.{EntityRow}
use Rattle.fol_model.specs.Universe.{all_sections, numbers_below}
use Rattle.fol_model.specs.GridState.{GridState, is_dead, is_present, is_ticking, size}
use Rattle.fol_model.specs.Outputs.{chunk_count}
use Rattle.fol_model.specs.World.{block_in, standing_in}
use Rattle.fol_chunks.specs.Rows.{by_id, by_place}
use Rattle.fol_store.specs.Bag.{Bag}
use Rattle.fol_store.specs.Stock.{Stock, flat_of, jobs_of}
use Rattle.fol_store.specs.TaskRows.{by_number, rows_of}

-- the entries were put into the map in turn
abbrev pub PutsAll : {K X : Type 0} → (K → K → Ordering) → BTreeMap K X → BTreeMap K X → List (K × X) → Type 0
PutsAll {K} c old new es = (q : K) → get c new q ≡ update_all (eq_by_cmp c) (get c old) es q

abbrev pub ticks_in : GridState → ℕ → Bool
ticks_in g r = is_ticking (g.state r)

-- the regions that are not Dead, rising
abbrev pub live_in : GridState → List ℕ
live_in g = filter (λ r. not (is_dead (g.state r))) (numbers_below g.next)

-- the row of a region whose bag is in the store
abbrev pub row_in : GridState → (ℕ → Bag) → ℕ → RegionRow
row_in g bags r = record { id = r; state = g.state r; tick = (bags r).tick; owed = (bags r).owed; sections = size g r; chunks = chunk_count g r }

-- the id was given out, and the store has the bag of the region
pub record HasRow (g : GridState) (bags : ℕ → Bag) (r : ℕ) : Type 0 where
  pub above : 0 < r
  pub below : r < g.next
  pub here : (bags r).here ≡ true

-- a row for each present section, in order
abbrev pub owners_in : GridState → List OwnerRow
owners_in g = map (λ s. record { at = s; region = g.owner s }) (filter (is_present g) all_sections)

-- the row of a section of this region
abbrev pub owner_row : ℕ → SectionPos → OwnerRow
owner_row id s = record { at = s; region = id }

-- a row for each section of a region, in order
abbrev pub owners_of : GridState → ℕ → List OwnerRow
owners_of g id = map (owner_row id) (filter (λ s. nat_eq (g.owner s) id) all_sections)

-- an entity by its id, with where it stands
abbrev pub standing_entry : Entity → ℕ × Place
standing_entry e = (e.id, At e.at)

abbrev pub arrival_in : ℕ → Action → List (ℕ × Place)
arrival_in n (action.Arrive e) = (e.id, Transit n) ∷ []
arrival_in n _ = []

-- an entity by its id, with the number of the task that brings it
abbrev pub arrival_entries : TaskRow → List (ℕ × Place)
arrival_entries r = arrival_in r.task.number r.task.action

abbrev pub place_row : ℕ × Place → EntityRow
place_row e = record { id = e.0; place = e.1 }

-- the row of an entity that stands
abbrev pub standing_row : Entity → EntityRow
standing_row e = place_row (standing_entry e)

abbrev pub row_at : ℕ → Option Place → List EntityRow
row_at id None = []
row_at id (Some p) = (record { id = id; place = p }) ∷ []

-- a row for each entity that has a place, in order
abbrev pub places_in : (ℕ → Option Place) → List EntityRow
places_in f = flat_map (λ id. row_at id (f id)) (numbers_below 1000000001)

-- the entry says where its entity is
abbrev pub IsPlace : (ℕ → Option Place) → ℕ × Place → Type 0
IsPlace f e = f e.0 ≡ Some e.1

-- the entities and the tasks say where each entity is
pub record ArePlaces (f : ℕ → Option Place) (entities : List Entity) (tasks : List TaskRow) : Type 0 where
  pub right : AllByRecursion (IsPlace f) (map standing_entry entities ++ flat_map arrival_entries tasks)
  pub all : (id : ℕ) (p : Place) → f id ≡ Some p → list_any (λ e. nat_eq e.0 id) (map standing_entry entities ++ flat_map arrival_entries tasks) ≡ true
  pub few : (id : ℕ) (p : Place) → f id ≡ Some p → id < 1000000001

-- the blocks, entities and tasks of a store as lists in order
pub record AreRows (k : Stock) (blocks : List BlockAt) (entities : List Entity) (tasks : List TaskRow) : Type 0 where
  pub blocks_are : block_in blocks ≡ (flat_of k).blocks
  pub block_order : IsStrictlySortedBy by_place blocks
  pub none_empty : AllByRecursion (λ x. 0 < x.id) blocks
  pub entities_are : standing_in entities ≡ (flat_of k).standing
  pub entity_order : IsStrictlySortedBy by_id entities
  pub tasks_are : rows_of tasks ≡ jobs_of k
  pub task_order : IsStrictlySortedBy by_number tasks

-- the blocks and tasks of a store as lists in order, with the places of the entities that stand or that a task brings
pub record AreThings (k : Stock) (blocks : List BlockAt) (places : List EntityRow) (tasks : List TaskRow) : Type 0 where
  pub entities : List Entity
  pub rows : AreRows k blocks entities tasks
  pub placed : (f : ℕ → Option Place) → ArePlaces f entities tasks → places ≡ places_in f
