use Rattle.std.proofs.Common.{◌≡◌, length, arith}
use Rattle.fol_store.specs.contracts.store.Store.{the_view}
use Rattle.fol_bags.specs.Slots.{slot_in}
use Rattle.fol_store.proofs.Queuing.{same_sound, roomier}
use Rattle.fol_store.proofs.store.Store.make_room.Goals as goal

pub invariant_of-self : goal.invariant_of-self
invariant_of-self c =
    let long : length c.make_room.new.bags.items ≡ length c.self.inside.bags.items = omega arith in
    same_sound (the_view c.self.inside) c.make_room.new.bags.items _ _ c.args.id (let r = slot_in c.make_room.new.bags.items c.args.id in r.body) c.make_room.ensures.sets.slots c.self.invariant c.make_room.ensures.same c.make_room.ensures.timely long

pub returns-clause-same : goal.returns-clause-same
returns-clause-same c =
    let long : length c.make_room.new.bags.items ≡ length c.self.inside.bags.items = omega arith in
    rw (← c.self.view_is) (roomier (the_view c.self.inside) c.make_room.new.bags.items _ _ c.args.id (let r = slot_in c.make_room.new.bags.items c.args.id in r.body) c.make_room.ensures.sets.slots c.self.invariant c.make_room.ensures.same long (omega arith) (omega arith))
