use Rattle.std.proofs.Common.{◌≡◌, sym, ◌∙◌, ap, true}
use Rattle.std.specs.Prelude.{is_some}
use Rattle.fol_region_tables.specs.Slots.{SlotTable, region_at}
use Rattle.fol_region_tables.proofs.LiveSlots.{living_go, on_some}
use Rattle.fol_region_tables.proofs.SlotSteps.{keys_go, removed_slots, removed_states, slot_held}
use Rattle.fol_region_tables.proofs.slots.Slots.remove.Goals as goal

pub forget_gone-requires : goal.forget_gone-requires
forget_gone-requires c =
    let v : SlotTable = record { regions = c.self.inside.regions.slots; room = c.self.inside.regions.capacity } in
    let w : SlotTable = record { regions = c.try_remove.new.self.slots; room = c.try_remove.new.self.capacity } in
    let at = rw (← c.self.view_is) at c.find-slot.ensures in
    let keys = c.self.inside.keys.items in
    let slots = removed_slots v w c.try_remove.ensures.capacity keys c.self.invariant.0 c.args.id c.find-slot.result at c.try_remove.ensures.updates.changed c.try_remove.ensures.updates.others in
    let some = sym c.is_some.ensures ∙ c.if-is_some.true in
    let held : is_some (region_at v c.find-slot.result) ≡ true = ap is_some (sym c.try_remove.ensures.value) ∙ some in
    record {
      keys = rw c.deref.ensures.value (keys_go v w keys c.self.invariant.0 c.try_remove.ensures.capacity c.find-slot.result c.try_remove.ensures.updates.changed c.try_remove.ensures.updates.others);
      living = living_go v w c.self.inside.living.items _ c.self.invariant.1 c.try_remove.ensures.capacity c.args.id slots (slot_held v keys c.self.invariant.0 c.args.id c.find-slot.result at held)
          (on_some c.try_remove.result _ some c.try_remove.ensures.len);
    }

pub invariant_of-self : goal.invariant_of-self
invariant_of-self c =
    let v : SlotTable = record { regions = c.self.inside.regions.slots; room = c.self.inside.regions.capacity } in
    let w : SlotTable = record { regions = c.try_remove.new.self.slots; room = c.try_remove.new.self.capacity } in
    let at = rw (← c.self.view_is) at c.find-slot.ensures in (
      keys_go v w c.self.inside.keys.items c.self.invariant.0 c.try_remove.ensures.capacity c.find-slot.result c.try_remove.ensures.updates.changed c.try_remove.ensures.updates.others,
      c.forget_gone.ensures,
    )

pub returns-then-is_some-clause-slots : goal.returns-then-is_some-clause-slots
returns-then-is_some-clause-slots c =
    let v : SlotTable = record { regions = c.self.inside.regions.slots; room = c.self.inside.regions.capacity } in
    let w : SlotTable = record { regions = c.try_remove.new.self.slots; room = c.try_remove.new.self.capacity } in
    let at = rw (← c.self.view_is) at c.find-slot.ensures in
    rw (← c.self.view_is) (removed_slots v w c.try_remove.ensures.capacity c.self.inside.keys.items c.self.invariant.0 c.args.id c.find-slot.result at
    c.try_remove.ensures.updates.changed c.try_remove.ensures.updates.others)

pub returns-then-is_some-clause-states : goal.returns-then-is_some-clause-states
returns-then-is_some-clause-states c =
    let v : SlotTable = record { regions = c.self.inside.regions.slots; room = c.self.inside.regions.capacity } in
    let w : SlotTable = record { regions = c.try_remove.new.self.slots; room = c.try_remove.new.self.capacity } in
    let at = rw (← c.self.view_is) at c.find-slot.ensures in
    rw (← c.self.view_is) (removed_states v w c.try_remove.ensures.capacity c.self.inside.keys.items c.self.invariant.0 c.args.id c.find-slot.result at
    c.try_remove.ensures.updates.changed c.try_remove.ensures.updates.others)

pub returns-else-is_some-clause-slots : goal.returns-else-is_some-clause-slots
returns-else-is_some-clause-slots c =
    let v : SlotTable = record { regions = c.self.inside.regions.slots; room = c.self.inside.regions.capacity } in
    let w : SlotTable = record { regions = c.try_remove.new.self.slots; room = c.try_remove.new.self.capacity } in
    let at = rw (← c.self.view_is) at c.find-slot.ensures in
    rw (← c.self.view_is) (removed_slots v w c.try_remove.ensures.capacity c.self.inside.keys.items c.self.invariant.0 c.args.id c.find-slot.result at
    c.try_remove.ensures.updates.changed c.try_remove.ensures.updates.others)

pub returns-else-is_some-clause-states : goal.returns-else-is_some-clause-states
returns-else-is_some-clause-states c =
    let v : SlotTable = record { regions = c.self.inside.regions.slots; room = c.self.inside.regions.capacity } in
    let w : SlotTable = record { regions = c.try_remove.new.self.slots; room = c.try_remove.new.self.capacity } in
    let at = rw (← c.self.view_is) at c.find-slot.ensures in
    rw (← c.self.view_is) (removed_states v w c.try_remove.ensures.capacity c.self.inside.keys.items c.self.invariant.0 c.args.id c.find-slot.result at
    c.try_remove.ensures.updates.changed c.try_remove.ensures.updates.others)
