use Rattle.std.proofs.Common.{◌≡◌, ℕ, ◌<◌, false}
use Rattle.fol_region_tables.specs.SlotKeys.{table_of}
use Rattle.fol_region_tables.specs.Slots.{has_id, region_at}
use Rattle.fol_region_tables.proofs.slots.look_for.Given as goal

abbrev pub invariant-loop-slot : goal.invariant-loop-slot
invariant-loop-slot l = (k : ℕ) → k < l.slot → has_id l.id (region_at (table_of l.regions) k) ≡ false
