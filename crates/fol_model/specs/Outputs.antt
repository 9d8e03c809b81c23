-- The rows of the world after a history: what a closing shows.
use Rattle.std.specs.Prelude.{ℕ, ◌≡◌, Bool, false, not, ◌&&◌, nat_eq, nat_lt, if◌then◌else◌, List, [], ◌∷◌, map, flat_map, filter, count_by, Option, Some, None}
use Rattle.fol_model.specs.Universe.{all_sections, all_chunks, all_blocks, numbers_below}
use Rattle.fol_model.specs.Geometry.{section_of}
use Rattle.fol_model.specs.declared.places.ChunkPos.{ChunkPos}
use Rattle.fol_model.specs.GridState.{GridState, is_dead, is_loaded, is_present, size}
use Rattle.fol_model.specs.declared.openings.BlockAt.{BlockAt}
use Rattle.fol_model.specs.declared.actions.Action.{Action}
use Rattle.fol_model.specs.declared.actions.Action.TheVariants as action
use Rattle.fol_model.specs.declared.openings.Opening.{Opening}
use Rattle.fol_model.specs.declared.events.Entry.{Entry}
use Rattle.fol_model.specs.declared.entities.Place.TheVariants.{At, Transit}
use Rattle.fol_model.specs.declared.closings.RegionRow.{RegionRow}
use Rattle.fol_model.specs.declared.closings.OwnerRow.{OwnerRow}
use Rattle.fol_model.specs.declared.closings.TaskRow.{TaskRow}
use Rattle.fol_model.specs.declared.closings.EntityRow.{EntityRow}
use Rattle.fol_model.specs.declared.closings.Closing.{Closing}
use Rattle.fol_model.specs.ActionStep.{Standing}
use Rattle.fol_model.specs.World.{World}
use Rattle.fol_model.specs.Job.{Job}
use Rattle.fol_model.specs.Run.{world}

-- the loaded chunks in the sections of a region
abbrev pub is_chunk_of : GridState → ℕ → ChunkPos → Bool
is_chunk_of g r c = is_loaded g c && nat_eq (g.owner (section_of g.grid c)) r

abbrev pub chunk_count : GridState → ℕ → ℕ
chunk_count g r = count_by (is_chunk_of g r) all_chunks

-- a row for each region that is not Dead, by id
abbrev pub region_row : World → ℕ → RegionRow
region_row w r = record { id = r; state = w.grid.state r; tick = w.tick r; owed = w.owed r; sections = size w.grid r; chunks = chunk_count w.grid r }

unfoldable pub region_rows : World → List RegionRow
region_rows w = map (region_row w) (filter (λ r. not (is_dead (w.grid.state r))) (numbers_below w.grid.next))

-- a row for each present section, by (z, x)
unfoldable pub owner_rows : World → List OwnerRow
owner_rows w = map (λ s. record { at = s; region = w.grid.owner s }) (filter (is_present w.grid) all_sections)

-- the row of a task, where it is queued
abbrev pub task_row : ℕ → Option Job → List TaskRow
task_row n None = []
task_row n (Some j) = if nat_eq j.taker 0 then (record { task = record { number = n; chunk = j.chunk; action = j.action }; rest = j.rest }) ∷ [] else []

-- by number
unfoldable pub task_rows : World → List TaskRow
task_rows w = flat_map (λ n. task_row n (w.jobs n)) (numbers_below w.next_job)

abbrev pub is_arrival_of : ℕ → Action → Bool
is_arrival_of id (action.Arrive e) = nat_eq e.id id
is_arrival_of id _ = false

-- the task brings the entity to its destination
abbrev pub brings : ℕ → Option Job → Bool
brings id None = false
brings id (Some j) = is_arrival_of id j.action

-- the row of an entity: where it stands, or the task under which it is in transit
abbrev pub entity_row : World → ℕ → Option Standing → List EntityRow
entity_row w id (Some b) = (record { id = id; place = At b.at }) ∷ []
entity_row w id None = map (λ n. record { id = id; place = Transit n }) (filter (λ n. brings id (w.jobs n)) (numbers_below w.next_job))

-- by id
unfoldable pub entity_rows : World → List EntityRow
entity_rows w = flat_map (λ id. entity_row w id (w.flat.standing id)) (numbers_below 1000000001)

-- a row for each block with a number above 0, by (x, y, z)
unfoldable pub block_rows : World → List BlockAt
block_rows w = map (λ b. record { at = b; id = w.flat.blocks b }) (filter (λ b. nat_lt 0 (w.flat.blocks b)) all_blocks)

-- the closing has the rows of the world after the history
pub record Outputs (o : Opening) (h : List Entry) (c : Closing) : Type 0 where
  pub opening : c.opening ≡ o
  pub history : c.history ≡ h
  pub regions : c.regions ≡ region_rows (world o h)
  pub owners : c.owners ≡ owner_rows (world o h)
  pub tasks : c.tasks ≡ task_rows (world o h)
  pub entities : c.entities ≡ entity_rows (world o h)
  pub blocks : c.blocks ≡ block_rows (world o h)
