use Rattle.std.proofs.Common.{ap, sym, ◌∙◌, arith}
use Rattle.fol_world.specs.declared.tables.Course.{Course}
use Rattle.fol_core.proofs.Ahead.{sum_is}
use Rattle.fol_core.proofs.AheadAnswers.{none_outside, none_stands, phase_in_phase, phase_outside, phase_over, stands_none}
use Rattle.fol_core.proofs.MarkCounts.{count_off}
use Rattle.fol_core.proofs.PhaseKept.{all_here, opened_kept}
use Rattle.fol_core.proofs.Rooms.{not_grown, room_left}
use Rattle.fol_core.proofs.machine.Core.open_phase.Goals as goal

pub set_owed-requires : goal.set_owed-requires
set_owed-requires c = record {
  here = rw c.as_slice.ensures.value (all_here _ _ _ c.self.invariant.0.stands c.if-self.false c.in_ok-live.live.items c.in_ok-live.ensures);
}

pub invariant_of-self-2 : goal.invariant_of-self-2
invariant_of-self-2 c =
    let none = none_outside _ _ _ _ c.self.invariant.0 c.if-self.false in (
      rw (c.record.ensures.entries, c.in_ok-grow_history.ensures.entries)
          (stands_none _ _ _ none _
          (opened_kept _ _ _ (none_stands _ _ _ _ c.self.invariant.0 none) (sym c.is_over.ensures ∙ c.if-is_over.false) c.if-self.false c.args.by c.args.n c.requires.some
          (rw (← c.self.view_is) at c.requires.within) c.in_ok-grow_history.ensures.size c.in_ok-live.live c.in_ok-live.ensures c.set_owed.new.store (rw c.as_slice.ensures.value at c.set_owed.ensures.bags)
          c.set_owed.ensures.things c.set_owed.ensures.next c.record.new.course c.record.ensures.size)),
      tt,
      room_left c.record.new.course _ _ _ _ _ _ c.count.ensures.count c.in_ok-grow_history.ensures.room c.record.ensures.len c.record.ensures.capacity,
      omega (arith, c.in_ok-live.live.ok, count_off c.self.inside.marks none),
    )

pub returns-then-is_over-clause-answer : goal.returns-then-is_over-clause-answer
returns-then-is_over-clause-answer c = rw (← c.self.view_is) (phase_over _ _ _ _ c.self.invariant.0 (sym c.is_over.ensures ∙ c.if-is_over.true))

pub returns-then-self-clause-answer : goal.returns-then-self-clause-answer
returns-then-self-clause-answer c = rw (← c.self.view_is) (phase_in_phase _ _ _ _ c.self.invariant.0 (sym c.is_over.ensures ∙ c.if-is_over.false) c.if-self.true)

pub invariant_of-self : goal.invariant_of-self
invariant_of-self c =
    let kept = c.in_err-grow_history.ensures in
    not_grown c.self.inside.opening c.self.inside.history c.grow_history.new.history _ c.self.inside.tables c.self.inside.room _ _ kept.entries kept.len kept.capacity c.self.invariant

pub overflow_add-self : goal.overflow_add-self
overflow_add-self c =
    let sum = sum_is _ _ _ _ c.self.invariant.0 in
    let within = rw (← c.self.view_is) at c.requires.within in
    omega (arith, ap (λ (x : Course). x.sum) c.record.ensures.size, sum, within)

pub returns-clause-answer : goal.returns-clause-answer
returns-clause-answer c = rw (← c.self.view_is) (phase_outside _ _ _ _ c.self.invariant.0 (sym c.is_over.ensures ∙ c.if-is_over.false) c.if-self.false)
