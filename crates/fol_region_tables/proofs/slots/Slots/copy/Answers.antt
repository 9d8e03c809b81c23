use Rattle.std.proofs.Common.{◌≡◌, ◌≤◌, ◌∙◌, refl, ap, arith}
use Rattle.std.specs.Prelude.{count_by, is_some}
use Rattle.fol_region_tables.specs.Slots.{SlotTable}
use Rattle.fol_region_tables.proofs.LiveSlots.{living_copied}
use Rattle.fol_region_tables.proofs.CopySteps.{keys_copied, slots_same}
use Rattle.fol_region_tables.proofs.slots.Slots.copy.Goals as goal

pub invariant_of-result : goal.invariant_of-result
invariant_of-result c =
    let v : SlotTable = record { regions = c.self.inside.regions.slots; room = c.self.inside.regions.capacity } in
    let w : SlotTable = record { regions = c.reserve.new.self.slots; room = c.reserve.new.self.capacity } in
    let slots : c.reserve.new.self.slots ≡ c.self.inside.regions.slots = ap (λ s. s.slots) c.reserve.ensures.rest_kept ∙ slots_same _ (λ x y r. r) _ _ c.in_ok-regions.ensures.cases.slots in
    let few = ap (count_by is_some) slots in
    let more : c.self.inside.regions.capacity ≤ c.reserve.new.self.capacity = omega (arith, few, c.in_ok-reserve.ensures.room, c.len.ensures, c.capacity.ensures.value, c.capacity.ensures.holds_all) in (
      keys_copied c.self.inside.regions.slots c.reserve.new.self.slots c.self.inside.regions.capacity c.reserve.new.self.capacity c.self.inside.keys.items _ c.self.invariant.0 slots more
          (c.in_ok-extend_from_slice.ensures.items ∙ rw (c.in_ok-keys.ensures.items, c.deref.ensures.value) refl),
      living_copied v w slots more c.self.invariant.0.within c.self.inside.living.items _ _ _ c.self.invariant.1
          (c.in_ok-extend_from_slice-2.ensures.items ∙ rw (c.in_ok-living.ensures.items, c.deref-2.ensures.value) refl)
          (omega (arith, c.in_ok-extend_from_slice-2.ensures.capacity, c.in_ok-living.ensures.capacity, c.capacity-3.ensures.value)),
    )

pub returns-clause-regions : goal.returns-clause-regions
returns-clause-regions c = rw (← c.self.view_is) (ap (λ s. s.slots) c.reserve.ensures.rest_kept ∙ slots_same _ (λ x y r. r) _ _ c.in_ok-regions.ensures.cases.slots)

pub returns-clause-room : goal.returns-clause-room
returns-clause-room c =
    let slots : c.reserve.new.self.slots ≡ c.self.inside.regions.slots = ap (λ s. s.slots) c.reserve.ensures.rest_kept ∙ slots_same _ (λ x y r. r) _ _ c.in_ok-regions.ensures.cases.slots in
    let few = ap (count_by is_some) slots in
    rw (← c.self.view_is) (omega (arith, few, c.in_ok-reserve.ensures.room, c.len.ensures, c.capacity.ensures.value, c.capacity.ensures.holds_all))
