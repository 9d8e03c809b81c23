-- The rows of a closing are those of the world, where no region ticks.
use Rattle.std.proofs.Common.{◌≡◌, ℕ, refl, sym, ◌∙◌, ap, false, List, not}
use Rattle.std.specs.Prelude.{All, filter, map, Some, None, Result, Ok, Err, IfOk}
use Rattle.std.specs.List.{find}
use Rattle.std.proofs.lemmas.List.Elements.{All-from_recursion}
use Rattle.fol_model.specs.declared.openings.BlockAt.{BlockAt}
use Rattle.fol_model.specs.declared.openings.Opening.{Opening}
use Rattle.fol_model.specs.declared.entities.Entity.{Entity}
use Rattle.fol_model.specs.declared.events.Entry.{Entry}
use Rattle.fol_model.specs.declared.closings.Closing.{Closing}
use Rattle.fol_model.specs.declared.closings.EntityRow.{EntityRow}
use Rattle.fol_model.specs.declared.closings.OwnerRow.{OwnerRow}
use Rattle.fol_model.specs.declared.closings.RegionRow.{RegionRow}
use Rattle.fol_model.specs.declared.closings.TaskRow.{TaskRow}
use Rattle.fol_model.specs.ActionStep.{Flat}
use Rattle.fol_model.specs.Counting.{some_below}
use Rattle.fol_model.specs.GridState.{GridState, is_dead, is_ticking}
use Rattle.fol_model.specs.OpeningParts.{IsOpening}
use Rattle.fol_model.specs.Outputs.{Outputs, block_rows, entity_rows, region_rows, task_rows}
use Rattle.fol_model.specs.Run.{world}
use Rattle.fol_model.specs.Universe.{numbers_below}
use Rattle.fol_model.specs.World.{start}
use Rattle.fol_laws.specs.OnePlace.{place_of}
use Rattle.fol_laws.proofs.PlaceOfEntity.{places_ok}
use Rattle.fol_laws.proofs.WholeRuns.{Good, good_start}
use Rattle.fol_regions.specs.Table.{grid_state}
use Rattle.fol_store.specs.Stock.{bag_of, flat_of, jobs_of}
use Rattle.fol_world.specs.declared.tables.Tables.{Tables}
use Rattle.fol_core.specs.declared.answers.CloseFault.{CloseFault}
use Rattle.fol_core.specs.declared.answers.CloseFault.TheVariants.{NoMemory, Ticking}
use Rattle.fol_core.specs.Answers.{Faults, is_ticking_in, FindsTicking}
use Rattle.fol_world.specs.Closings.{ArePlaces, AreRows, AreThings, HasRow, live_in, owners_in, row_in, ticks_in}
use Rattle.fol_world.specs.Hands.{since}
use Rattle.fol_world.specs.Stands.{Stands}
use Rattle.fol_world.proofs.BlockRuns.{BlocksWithin, blocks_within, first_within}
use Rattle.fol_world.proofs.CalmStore.{all_flat, all_jobs, calm, have_rows, rows_of_bags, ticking_lives}
use Rattle.fol_world.proofs.EntityRows.{are_places, entity_rows_are, few_ids}
use Rattle.fol_world.proofs.OwnerRows.{owners_stand}
use Rattle.fol_world.proofs.LeastFound.{first_below, first_found, first_none, first_some}
use Rattle.fol_world.proofs.Longer.{good_of}
use Rattle.fol_world.proofs.RowsInOrder.{block_rows_are, task_rows_are}

module _ (o : Opening) (h : List Entry) (t : Tables) (s : Stands o h t) (live : List ℕ) (l : live ≡ filter (λ r. not (is_dead ((grid_state t.regions).state r))) (numbers_below (grid_state t.regions).next)) where
  live_now : live ≡ live_in (world o h).grid
  live_now = l ∙ ap live_in s.fits.regions

  -- ---- the region that ticks
  ticking_found : find (ticks_in (grid_state t.regions)) live ≡ first_below (is_ticking_in (world o h)) (world o h).grid.next
  ticking_found = ap (λ (g : GridState). find (ticks_in g) live) s.fits.regions ∙ ap (find (ticks_in (world o h).grid)) live_now
      ∙ first_found (is_ticking_in (world o h)) (λ r. not (is_dead ((world o h).grid.state r))) (λ r e. ticking_lives ((world o h).grid.state r) e) (world o h).grid.next

  pub ticking_fault : (r : ℕ) → find (ticks_in (grid_state t.regions)) live ≡ Some r → Faults (world o h) (Ticking r)
  ticking_fault r e = first_some (is_ticking_in (world o h)) (world o h).grid.next r (sym ticking_found ∙ e)

  pub ticking_none : find (ticks_in (grid_state t.regions)) live ≡ None → some_below (is_ticking_in (world o h)) (world o h).grid.next ≡ false
  ticking_none e = first_none (is_ticking_in (world o h)) (world o h).grid.next (sym ticking_found ∙ e)

  module _ (none : find (ticks_in (grid_state t.regions)) live ≡ None) where
    good : Good o (world o h)
    good = good_of o h t s

    still : (r : ℕ) → is_ticking ((world o h).grid.state r) ≡ false
    still = calm (world o h).grid good.sound.rules (ap (find (ticks_in (world o h).grid)) (sym live_now) ∙ ap (λ (g : GridState). find (ticks_in g) live) (sym s.fits.regions) ∙ none)

    -- ---- the regions
    pub rows_there : All (HasRow (grid_state t.regions) (bag_of t.store)) live
    rows_there = rw (live_now, s.fits.regions) (All-from_recursion (HasRow (world o h).grid (bag_of t.store)) (live_in (world o h).grid) (have_rows (world o h) t.store (since o h) good.sound s.fits.stored still))

    regions_are : map (row_in (grid_state t.regions) (bag_of t.store)) live ≡ region_rows (world o h)
    regions_are = ap (λ (g : GridState). map (row_in g (bag_of t.store)) live) s.fits.regions ∙ ap (map (row_in (world o h).grid (bag_of t.store))) live_now
        ∙ rows_of_bags (world o h) t.store (since o h) good.sound s.fits.stored still

    -- ---- what lies in the store
    flat_now : flat_of t.store ≡ (world o h).flat
    flat_now = all_flat (world o h) t.store (since o h) good.sound s.fits.stored still

    jobs_now : jobs_of t.store ≡ (world o h).jobs
    jobs_now = all_jobs (world o h) t.store (since o h) good.sound s.fits.stored still

    module _ (opens : IsOpening o) where
      in_limits : BlocksWithin (world o h).flat.blocks
      in_limits = blocks_within (start o) h (good_start o s.grid).sound s.run (first_within o.blocks opens.each_block)

      places_are : (blocks : List BlockAt) (entities : List Entity) (tasks : List TaskRow) → AreRows t.store blocks entities tasks → ArePlaces (place_of (world o h)) entities tasks
      places_are blocks entities tasks are = are_places o (world o h) (places_ok o (world o h) good.sound good.place) entities tasks
          (are.entities_are ∙ ap (λ (f : Flat). f.standing) flat_now) are.entity_order (are.tasks_are ∙ jobs_now) are.task_order
          (few_ids o.entities opens.each_entity)

      tasks_right : (blocks : List BlockAt) (places : List EntityRow) (tasks : List TaskRow) → AreThings t.store blocks places tasks → tasks ≡ task_rows (world o h)
      tasks_right blocks places tasks are = task_rows_are (world o h) tasks good.sound are.rows.task_order (are.rows.tasks_are ∙ jobs_now)

      entities_right : (blocks : List BlockAt) (places : List EntityRow) (tasks : List TaskRow) → AreThings t.store blocks places tasks → places ≡ entity_rows (world o h)
      entities_right blocks places tasks are = are.placed (place_of (world o h)) (places_are blocks are.entities tasks are.rows) ∙ entity_rows_are o (world o h) (places_ok o (world o h) good.sound good.place)

      blocks_right : (blocks : List BlockAt) (places : List EntityRow) (tasks : List TaskRow) → AreThings t.store blocks places tasks → blocks ≡ block_rows (world o h)
      blocks_right blocks places tasks are = block_rows_are (world o h) blocks in_limits are.rows.block_order are.rows.none_empty (are.rows.blocks_are ∙ ap (λ (f : Flat). f.blocks) flat_now)

      -- the lists are those of the world
      pub closed : (c : Closing) → c.opening ≡ o → c.history ≡ h → c.regions ≡ map (row_in (grid_state t.regions) (bag_of t.store)) live → c.owners ≡ owners_in (grid_state t.regions)
          → AreThings t.store c.blocks c.entities c.tasks → Outputs o h c
      closed c opening history region owner are = record {
        opening = opening;
        history = history;
        regions = region ∙ regions_are;
        owners = owner ∙ owners_stand o h t s;
        tasks = tasks_right c.blocks c.entities c.tasks are;
        entities = entities_right c.blocks c.entities c.tasks are;
        blocks = blocks_right c.blocks c.entities c.tasks are;
      }

      -- where they could be made
      pub closed_if : (r : Result Closing CloseFault) (regions : List RegionRow) (owners : List OwnerRow) → regions ≡ map (row_in (grid_state t.regions) (bag_of t.store)) live → owners ≡ owners_in (grid_state t.regions)
          → IfOk r (λ c. c.opening ≡ o) → IfOk r (λ c. c.history ≡ h) → IfOk r (λ c. c.regions ≡ regions) → IfOk r (λ c. c.owners ≡ owners) → IfOk r (λ c. AreThings t.store c.blocks c.entities c.tasks)
          → IfOk r (λ c. Outputs o h c)
      closed_if (Ok c) regions owners each owned opening history region owner are = closed c opening history (region ∙ each) (owner ∙ owned) are
      closed_if (Err e) regions owners each owned opening history region owner are = tt

-- what was found where a region ticks is the fault of the world
pub found_fault : (o : Opening) (h : List Entry) (t : Tables) (s : Stands o h t) (f : CloseFault) → FindsTicking (grid_state t.regions) f → Faults (world o h) f
found_fault o h t s (Ticking r) e = ticking_fault o h t s (live_in (grid_state t.regions)) refl r e
found_fault o h t s NoMemory e = tt
