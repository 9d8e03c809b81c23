use Rattle.std.proofs.Common.{sym, ◌∙◌, ap, refl, arith, length}
use Rattle.fol_core.proofs.Ahead.{over_is, prepare_ahead}
use Rattle.fol_core.proofs.AheadAnswers.{owing_tables}
use Rattle.fol_core.proofs.AheadBegins.{not_prepared, owing_now, tick_now}
use Rattle.fol_core.proofs.BeginKept.{room_due, room_for, room_whole, tidy_bags, tidy_covers}
use Rattle.fol_core.proofs.BeginTick.{begin_stands, tick_is}
use Rattle.fol_world.proofs.GatheredBags.{ready_here}
use Rattle.fol_core.proofs.Rooms.{place_taken}
use Rattle.fol_core.proofs.machine.Core.prepare_in.Goals as goal

pub due_room-room-requires : goal.due_room-room-requires
due_room-room-requires c = (c.args.id, rw c.take.ensures.value (rw (← c.self.view_is) at c.requires.ready))

pub hand_out-requires-clause-owing : goal.hand_out-requires-clause-owing
hand_out-requires-clause-owing c = owing_tables _ _ _ _ c.self.invariant.0 c.args.id (rw (← c.self.view_is) at c.requires.free)

pub hand_out-requires-clause-here : goal.hand_out-requires-clause-here
hand_out-requires-clause-here c =
    ready_here _ _ _ c.self.invariant.0.stands c.args.id (owing_tables _ _ _ _ c.self.invariant.0 c.args.id (rw (← c.self.view_is) at c.requires.free))

pub hand_out-requires-clause-whole : goal.hand_out-requires-clause-whole
hand_out-requires-clause-whole c =
    room_whole c.self.inside.room c.self.inside.tables c.self.inside.history c.args.id _ _ c.self.invariant.1 (rw (← c.self.view_is) at c.requires.ready)
    (owing_tables _ _ _ _ c.self.invariant.0 c.args.id (rw (← c.self.view_is) at c.requires.free))

pub hand_out-requires-clause-room : goal.hand_out-requires-clause-room
hand_out-requires-clause-room c =
    room_due c.self.inside.room c.self.inside.tables c.self.inside.history c.args.id _ _ c.due_room-room.result c.self.invariant.1 (rw (← c.self.view_is) at c.requires.ready)
    (rw c.take.ensures.value at c.due_room-room.ensures) (owing_tables _ _ _ _ c.self.invariant.0 c.args.id (rw (← c.self.view_is) at c.requires.free))

pub hand_out-requires-clause-bags : goal.hand_out-requires-clause-bags
hand_out-requires-clause-bags c =
    let owing = owing_tables _ _ _ _ c.self.invariant.0 c.args.id (rw (← c.self.view_is) at c.requires.free) in
    tidy_bags _ _ _ c.self.invariant.0.stands c.args.id owing

pub hand_out-requires-clause-covers : goal.hand_out-requires-clause-covers
hand_out-requires-clause-covers c =
    let owing = owing_tables _ _ _ _ c.self.invariant.0 c.args.id (rw (← c.self.view_is) at c.requires.free) in
    tidy_covers _ _ _ c.self.invariant.0.stands c.args.id owing

pub add-requires : goal.add-requires
add-requires c =
    let owing = owing_tables _ _ _ _ c.self.invariant.0 c.args.id (rw (← c.self.view_is) at c.requires.free) in
    let room = room_for c.self.inside.room c.self.inside.tables c.self.inside.history c.args.id _ _ c.self.invariant.1 (rw (← c.self.view_is) at c.requires.ready) in
    record { room = room.mark; fresh = not_prepared _ _ _ _ c.self.invariant.0 c.args.id owing }

pub invariant_of-self : goal.invariant_of-self
invariant_of-self c =
    let s = c.self.invariant.0 in
    let owing = owing_tables _ _ _ _ s c.args.id (rw (← c.self.view_is) at c.requires.free) in
    let room = room_for c.self.inside.room c.self.inside.tables c.self.inside.history c.args.id _ _ c.self.invariant.1 (rw (← c.self.view_is) at c.requires.ready) in
    let out = c.hand_out.ensures in
    let on = rw (← c.self.view_is) at c.requires.on in (
      prepare_ahead _ _ _ s.runs c.args.id (not_prepared _ _ _ _ s c.args.id owing) on (owing_now _ _ _ _ s c.args.id owing) _ _ (sym c.add.ensures.marks)
          (begin_stands _ _ _ s.stands c.args.id owing (room.settled owing) 0 0 c.hand_out.new.tables _ (over_is _ _ _ _ s ∙ on) room.size out.regions out.flat out.jobs out.taken out.next out.agenda
          out.others.0 out.others.1 out.others.2 refl),
      rw c.take.ensures.after tt,
      λ x. omega (arith, room.history, c.add.ensures.count),
      place_taken c.self.inside.tables.agenda c.hand_out.new.tables.agenda c.args.id _ _ c.self.invariant.3 room.place out.len out.capacity out.top c.add.ensures.count,
    )

pub returns-clause-tick : goal.returns-clause-tick
returns-clause-tick c =
    let s = c.self.invariant.0 in
    let owing = owing_tables _ _ _ _ s c.args.id (rw (← c.self.view_is) at c.requires.free) in
    let room = room_for c.self.inside.room c.self.inside.tables c.self.inside.history c.args.id _ _ c.self.invariant.1 (rw (← c.self.view_is) at c.requires.ready) in
    let out = c.hand_out.ensures in
    rw (← c.self.view_is) (tick_now _ _ _ _ s c.args.id owing _ _ _ (tick_is _ _ _ s.stands c.args.id owing (room.settled owing) 0 _ _ refl out.region (ap length c.as_slice.ensures.value) out.chunks
    out.counter out.owed out.contents out.left out.order out.due out.ran out.wishes out.next_task out.moved))
