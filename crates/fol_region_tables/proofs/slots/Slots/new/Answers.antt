use Rattle.std.proofs.Common.{◌≡◌, ℕ, ap, arith}
use Rattle.std.specs.Prelude.{None, count_by, is_some}
use Rattle.std.specs.List.{slice_index_or}
use Rattle.fol_region_tables.specs.Slots.{SlotTable, has_id, slot_of}
use Rattle.fol_region_tables.proofs.LiveSlots.{living_none}
use Rattle.fol_region_tables.proofs.SlotSteps.{keys_none, least-none}
use Rattle.fol_region_tables.proofs.slots.Slots.new.Goals as goal

pub returns-clause-none : goal.returns-clause-none
unfolding slot_of
returns-clause-none c = λ id. least-none _ _ (λ k l. ap (λ xs. has_id id (slice_index_or xs k None)) c.in_ok-regions.ensures.empty)

pub invariant_of-result : goal.invariant_of-result
unfolding slot_of
invariant_of-result c =
    let empty = c.in_ok-regions.ensures.empty in
    let v : SlotTable = record { regions = c.in_ok-regions.regions.slots; room = c.in_ok-regions.regions.capacity } in
    let none : (id : ℕ) → slot_of v id ≡ v.room = λ id. least-none _ _ (λ k l. ap (λ xs. has_id id (slice_index_or xs k None)) empty) in (
      keys_none _ _ _ empty (omega (arith, c.in_ok-regions.ensures.capacity)),
      rw c.in_ok-living.ensures.items (living_none v _ none (ap (count_by is_some) empty) (omega (arith, c.in_ok-living.ensures.capacity, c.capacity.ensures.value))),
    )
