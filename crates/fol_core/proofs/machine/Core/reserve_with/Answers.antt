use Rattle.std.proofs.Common.{arith, inl}
use Rattle.fol_core.proofs.Ahead.{gathered_ahead, given_ahead, places_ahead}
use Rattle.fol_world.proofs.GatheredBags.{owes_as_before, ready_free}
use Rattle.fol_core.proofs.Rooms.{not_grown}
use Rattle.fol_core.proofs.machine.Core.reserve_with.Goals as goal

pub invariant_of-self : goal.invariant_of-self
invariant_of-self c =
    let kept = c.in_err-grow_history.ensures in
    not_grown c.self.inside.opening c.self.inside.history c.grow_history.new.history _ c.self.inside.tables c.self.inside.room _ _ kept.entries kept.len kept.capacity c.self.invariant

pub invariant_of-self-in_err-make_room : goal.invariant_of-self-in_err-make_room
invariant_of-self-in_err-make_room c = (
  rw (c.in_ok-grow_history.ensures.entries, c.in_err-make_room.ensures.same) c.self.invariant.0,
  tt,
  λ on. omega (arith, c.in_ok-grow_history.ensures.room, c.count.ensures.count, c.in_err-make_room.ensures.count),
  omega (arith, c.self.invariant.3, c.in_err-make_room.ensures.count),
)

pub due_list-requires-clause-given : goal.due_list-requires-clause-given
due_list-requires-clause-given c = let given = rw (← c.self.view_is) at c.requires.given in given_ahead _ _ _ _ c.self.invariant.0 c.args.id given.above given.below

pub due_list-requires-clause-free : goal.due_list-requires-clause-free
due_list-requires-clause-free c = λ x. ready_free _ _ _ c.self.invariant.0.stands c.args.id x

pub invariant_of-self-in_err-reserve : goal.invariant_of-self-in_err-reserve
invariant_of-self-in_err-reserve c = (
  rw (c.in_ok-grow_history.ensures.entries, c.in_ok-make_room.ensures.same) (places_ahead _ _ _ _ c.self.invariant.0 _ c.in_err-reserve.ensures.items),
  tt,
  λ on. omega (arith, c.in_ok-grow_history.ensures.room, c.count.ensures.count, c.in_ok-make_room.ensures.count),
  omega (arith, c.self.invariant.3, c.in_err-reserve.ensures.len, c.in_err-reserve.ensures.capacity, c.in_ok-make_room.ensures.count),
)

pub invariant_of-self-in_err-due : goal.invariant_of-self-in_err-due
invariant_of-self-in_err-due c = (
  rw (c.in_ok-grow_history.ensures.entries, c.in_ok-make_room.ensures.same)
      (gathered_ahead _ _ _ _ (places_ahead _ _ _ _ c.self.invariant.0 _ c.in_ok-reserve.ensures.items) c.due_list.new.store c.in_err-due.ensures.things c.in_err-due.ensures.next c.in_err-due.ensures.bags),
  tt,
  λ on. omega (arith, c.in_ok-grow_history.ensures.room, c.count.ensures.count, c.in_ok-make_room.ensures.count),
  omega (arith, c.self.invariant.3, c.in_ok-reserve.ensures.len, c.in_ok-reserve.ensures.capacity, c.in_ok-make_room.ensures.count),
)

pub invariant_of-self-2 : goal.invariant_of-self-2
invariant_of-self-2 c =
    let got = c.in_ok-due.ensures in
    let given = rw (← c.self.view_is) at c.requires.given in
    let same = owes_as_before _ _ _ c.args.id got.bags in (
      rw (c.in_ok-grow_history.ensures.entries, c.in_ok-make_room.ensures.same)
          (gathered_ahead _ _ _ _ (places_ahead _ _ _ _ c.self.invariant.0 _ c.in_ok-reserve.ensures.items) c.due_list.new.store got.things got.next got.bags),
      record {
        given = given_ahead _ _ _ _ c.self.invariant.0 c.args.id given.above given.below;
        size = c.in_ok-grow_history.ensures.size;
        history = omega (arith, c.in_ok-grow_history.ensures.room, c.count.ensures.count, c.in_ok-make_room.ensures.count);
        mark = c.in_ok-make_room.ensures.room;
        place = inl (omega (arith, c.in_ok-reserve.ensures.len, c.in_ok-reserve.ensures.ok, c.count-2.ensures.count));
        empty = got.room.empty;
        whole = λ x. got.room.whole (rw same at x);
        due = λ x. got.room.room (rw same at x);
      },
      λ on. omega (arith, c.in_ok-grow_history.ensures.room, c.count.ensures.count, c.in_ok-make_room.ensures.count),
      omega (arith, c.self.invariant.3, c.in_ok-reserve.ensures.len, c.in_ok-reserve.ensures.capacity, c.in_ok-make_room.ensures.count),
    )
