use Rattle.std.proofs.Common.{sym, ◌∙◌, ap, refl, arith}
use Rattle.fol_world.specs.declared.tables.Course.{Course}
use Rattle.fol_core.proofs.MarkCounts.{mark_below}
use Rattle.fol_core.proofs.UndoneTicks.{over_back, room_back, room_is, some_size, undone_ahead}
use Rattle.fol_core.proofs.machine.Core.take_back.Goals as goal

pub remove-requires : goal.remove-requires
remove-requires c = record { marked = rw (← c.self.view_is) at c.requires.prepared }

pub undo-due-requires : goal.undo-due-requires
undo-due-requires c = record {
  opening = _;
  history = _;
  marks = _;
  stands = c.self.invariant.0;
  marked = rw (← c.self.view_is) at c.requires.prepared;
  of = rw (← c.self.view_is) at c.requires.tick;
  spare = c.requires.room;
  room = omega (arith, c.self.invariant.3, c.remove.ensures.count);
}

pub overflow_sub-self : goal.overflow_sub-self
overflow_sub-self c =
    let some = some_size _ _ _ _ c.self.invariant.0 c.args.tick.now (rw (← c.self.view_is) at c.requires.prepared) (rw (← c.self.view_is) at c.requires.tick) in
    omega (arith, some, ap (λ (k : Course). k.size) c.undo-due.ensures.undone.course)

pub room_again-requires-clause-here : goal.room_again-requires-clause-here
room_again-requires-clause-here c = c.undo-due.ensures.undone.own.here

pub invariant_of-self : goal.invariant_of-self
invariant_of-self c =
    let s = c.self.invariant.0 in
    let marked = rw (← c.self.view_is) at c.requires.prepared in
    let of = rw (← c.self.view_is) at c.requires.tick in
    let un = c.undo-due.ensures.undone in (
      undone_ahead _ _ _ _ s c.args.tick.now marked of c.undo-due.new.tables un _ refl _ (sym c.remove.ensures.marks),
      room_back _ _ _ _ s c.args.tick.now marked of c.undo-due.new.tables un _ refl c.room_again.result c.self.inside.history _ _ _ c.room_again.ensures c.self.invariant.2 c.remove.ensures.count
          (let mark = mark_below c.self.inside.marks c.args.tick.now.region marked in rw c.remove.ensures.length mark),
      λ on. let room = c.self.invariant.2 (sym (over_back _ _ _ _ s c.args.tick.now marked of c.undo-due.new.tables un _ refl) ∙ on) in omega (arith, room, c.remove.ensures.count),
      omega (arith, c.self.invariant.3, un.stack.len, un.stack.capacity, c.remove.ensures.count),
    )

pub returns-clause-ready : goal.returns-clause-ready
returns-clause-ready c = λ yes. room_is _ _ c.room_again.result c.room_again.ensures (sym c.is_some.ensures ∙ yes)
