use Rattle.std.proofs.Common.{◌<◌, arith}
use Rattle.fol_region_tables.specs.Slots.{SlotTable}
use Rattle.fol_region_tables.specs.declared.slots.Region.{Region}
use Rattle.fol_region_tables.proofs.LiveSlots.{living_come}
use Rattle.fol_region_tables.proofs.SlotSteps.{free_slot, keys_come, slots-come, states-come}
use Rattle.fol_region_tables.proofs.slots.Slots.insert.Goals as goal

pub make_room-requires : goal.make_room-requires
make_room-requires c = record {
  keys = rw c.deref.ensures.value c.self.invariant.0;
  living = c.self.invariant.1;
  free = rw (← c.self.view_is) at c.requires.some_free;
}

pub put_id-requires : goal.put_id-requires
put_id-requires c = record { rising = c.make_room.ensures.living.rising; room = c.make_room.ensures.room }

pub invariant_of-self : goal.invariant_of-self
invariant_of-self c =
    let v : SlotTable = record { regions = c.self.inside.regions.slots; room = c.self.inside.regions.capacity } in
    let w : SlotTable = record { regions = c.insert_reserved-slot.new.self.slots; room = c.insert_reserved-slot.new.self.capacity } in
    let n = rw (← c.self.view_is) at c.requires.none in
    let within : c.insert_reserved-slot.result < c.self.inside.regions.capacity = omega (arith, c.insert_reserved-slot.ensures.key_in_range, c.insert_reserved-slot.ensures.capacity) in
    let region : Region = record { id = c.args.id; state = c.args.state } in (
      keys_come v w c.self.inside.keys.items c.put_key.new.keys.items c.insert_reserved-slot.result region c.self.invariant.0 c.insert_reserved-slot.ensures.capacity
          within n c.insert_reserved-slot.ensures.updates.changed c.insert_reserved-slot.ensures.updates.others c.put_key.ensures.here c.put_key.ensures.others,
      living_come v w c.make_room.new.ids.items _ c.make_room.ensures.living c.insert_reserved-slot.ensures.capacity c.args.id c.insert_reserved-slot.result n within
          (slots-come v w c.insert_reserved-slot.ensures.capacity c.insert_reserved-slot.result c.insert_reserved-slot.ensures.updates.others region c.insert_reserved-slot.ensures.updates.changed c.insert_reserved-slot.ensures.was_vacant within n)
          c.insert_reserved-slot.ensures.len c.put_id.new.ids.items _ c.put_id.ensures.rising (let fits = c.make_room.ensures.living.fits in omega (arith, c.put_id.ensures.capacity)) c.put_id.ensures.there c.put_id.ensures.put,
    )

pub returns-clause-slots : goal.returns-clause-slots
returns-clause-slots c =
    let v : SlotTable = record { regions = c.self.inside.regions.slots; room = c.self.inside.regions.capacity } in
    let w : SlotTable = record { regions = c.insert_reserved-slot.new.self.slots; room = c.insert_reserved-slot.new.self.capacity } in
    let n = rw (← c.self.view_is) at c.requires.none in
    rw (← c.self.view_is) (slots-come v w c.insert_reserved-slot.ensures.capacity c.insert_reserved-slot.result c.insert_reserved-slot.ensures.updates.others (record { id = c.args.id; state = c.args.state })
    c.insert_reserved-slot.ensures.updates.changed c.insert_reserved-slot.ensures.was_vacant (omega (arith, c.insert_reserved-slot.ensures.key_in_range, c.insert_reserved-slot.ensures.capacity)) n)

pub returns-clause-states : goal.returns-clause-states
returns-clause-states c =
    let v : SlotTable = record { regions = c.self.inside.regions.slots; room = c.self.inside.regions.capacity } in
    let w : SlotTable = record { regions = c.insert_reserved-slot.new.self.slots; room = c.insert_reserved-slot.new.self.capacity } in
    let n = rw (← c.self.view_is) at c.requires.none in
    rw (← c.self.view_is) (states-come v w c.insert_reserved-slot.ensures.capacity c.insert_reserved-slot.result c.insert_reserved-slot.ensures.updates.others (record { id = c.args.id; state = c.args.state })
    c.insert_reserved-slot.ensures.updates.changed c.insert_reserved-slot.ensures.was_vacant (omega (arith, c.insert_reserved-slot.ensures.key_in_range, c.insert_reserved-slot.ensures.capacity)) n)

pub returns-clause-fresh : goal.returns-clause-fresh
returns-clause-fresh c =
    let v : SlotTable = record { regions = c.self.inside.regions.slots; room = c.self.inside.regions.capacity } in
    let w : SlotTable = record { regions = c.insert_reserved-slot.new.self.slots; room = c.insert_reserved-slot.new.self.capacity } in
    let n = rw (← c.self.view_is) at c.requires.none in
    rw (← c.self.view_is) (free_slot v w c.insert_reserved-slot.ensures.capacity c.insert_reserved-slot.result c.insert_reserved-slot.ensures.updates.others (record { id = c.args.id; state = c.args.state })
    c.insert_reserved-slot.ensures.updates.changed c.insert_reserved-slot.ensures.was_vacant (omega (arith, c.insert_reserved-slot.ensures.key_in_range, c.insert_reserved-slot.ensures.capacity)) n)
