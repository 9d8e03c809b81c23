use Rattle.fol_region_tables.specs.Slots.{SlotTable}
use Rattle.fol_region_tables.proofs.SlotSteps.{at_within, slot_is}
use Rattle.fol_region_tables.proofs.slots.Slots.keeps_slots.Goals as goal

pub returns-clause-own : goal.returns-clause-own
returns-clause-own c =
    let v : SlotTable = record { regions = c.self.inside.regions.slots; room = c.self.inside.regions.capacity } in
    rw (← c.self.view_is) (slot_is v c.self.inside.keys.items c.self.invariant.0)

pub returns-clause-within : goal.returns-clause-within
returns-clause-within c =
    let v : SlotTable = record { regions = c.self.inside.regions.slots; room = c.self.inside.regions.capacity } in
    rw (← c.self.view_is) (at_within v c.self.inside.keys.items c.self.invariant.0)
