use Rattle.std.proofs.Common.{sym, ◌∙◌, arith}
use Rattle.fol_core.proofs.Ahead.{learn_ahead, over_is}
use Rattle.fol_core.proofs.Rooms.{learnt_room}
use Rattle.fol_core.proofs.machine.Core.learn.Goals as goal

pub remove-requires : goal.remove-requires
remove-requires c = record { marked = rw (← c.self.view_is) at c.requires.prepared }

pub push_reserved-requires : goal.push_reserved-requires
push_reserved-requires c =
    let room = c.self.invariant.2 (over_is _ _ _ _ c.self.invariant.0 ∙ (rw (← c.self.view_is) at c.requires.on)) in
    omega (arith, room)

pub invariant_of-self : goal.invariant_of-self
invariant_of-self c = (
  rw (c.push_reserved.ensures.items, c.light.ensures)
      (learn_ahead _ _ _ c.self.invariant.0.runs c.args.id c.args.by c.args.worker (rw (← c.self.view_is) at c.requires.prepared) (rw (← c.self.view_is) at c.requires.on) _ _ (sym c.remove.ensures.marks) c.self.invariant.0.stands),
  rw c.remove.ensures.length (learnt_room c.self.inside.room c.self.inside.tables _ _ _ _ _ c.self.invariant.1 c.push_reserved.ensures.len c.push_reserved.ensures.capacity c.remove.ensures.count),
  λ x. let room = c.self.invariant.2 x in omega (arith, room, c.push_reserved.ensures.len, c.push_reserved.ensures.capacity, c.remove.ensures.count),
  omega (arith, c.self.invariant.3, c.remove.ensures.count),
)
