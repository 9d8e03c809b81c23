use Rattle.std.proofs.Common.{sym, ◌∙◌}
use Rattle.fol_core.proofs.AheadAnswers.{close_outside, close_over, close_same, none_stands, stands_none}
use Rattle.fol_core.proofs.AheadPhases.{none_at_close}
use Rattle.fol_core.proofs.PhaseKept.{all_done, closed_kept, not_yet}
use Rattle.fol_core.proofs.Rooms.{not_grown, room_left}
use Rattle.fol_core.proofs.machine.Core.close_phase.Goals as goal

pub returns-in-Some-clause-answer : goal.returns-in-Some-clause-answer
returns-in-Some-clause-answer c = rw (← c.self.view_is)
    (not_yet _ _ _ c.self.invariant.0.stands c.as_slice.result.now (c.as_slice.ensures.value ∙ c.in_ok-live.ensures)
    (sym c.is_over.ensures ∙ c.if-is_over.false) c.if-not-self.false c.in-Some.id (sym c.in-Some.ensures) ∙ close_same _ _ _ _ c.self.invariant.0)

pub invariant_of-self-2 : goal.invariant_of-self-2
invariant_of-self-2 c =
    let all = c.as_slice.ensures.value ∙ c.in_ok-live.ensures in
    let calm = sym c.first_busy.ensures ∙ c.in_default.is in
    let none = none_at_close _ _ _ _ c.self.invariant.0 c.as_slice.result.now all calm in (
      rw (c.record.ensures.entries, c.in_ok-grow_history.ensures.entries)
          (stands_none _ _ _ none _
          (closed_kept _ _ _ (none_stands _ _ _ _ c.self.invariant.0 none) c.as_slice.result.now all
          (sym c.is_over.ensures ∙ c.if-is_over.false) c.if-not-self.false calm c.args.by c.record.new.course c.record.ensures.size c.in_ok-grow_history.ensures.size)),
      tt,
      room_left c.record.new.course _ _ _ _ _ _ c.count.ensures.count c.in_ok-grow_history.ensures.room c.record.ensures.len c.record.ensures.capacity,
      c.self.invariant.3,
    )

pub returns-clause-answer : goal.returns-clause-answer
returns-clause-answer c = rw (← c.self.view_is)
    (all_done _ _ _ c.self.invariant.0.stands c.as_slice.result.now (c.as_slice.ensures.value ∙ c.in_ok-live.ensures)
    (sym c.is_over.ensures ∙ c.if-is_over.false) c.if-not-self.false (sym c.first_busy.ensures ∙ c.in_default.is) ∙ close_same _ _ _ _ c.self.invariant.0)

pub returns-then-is_over-clause-answer : goal.returns-then-is_over-clause-answer
returns-then-is_over-clause-answer c = rw (← c.self.view_is) (close_over _ _ _ _ c.self.invariant.0 (sym c.is_over.ensures ∙ c.if-is_over.true))

pub returns-then-not-self-clause-answer : goal.returns-then-not-self-clause-answer
returns-then-not-self-clause-answer c = rw (← c.self.view_is) (close_outside _ _ _ _ c.self.invariant.0 (sym c.is_over.ensures ∙ c.if-is_over.false) c.if-not-self.true)

pub invariant_of-self : goal.invariant_of-self
invariant_of-self c =
    let kept = c.in_err-grow_history.ensures in
    not_grown c.self.inside.opening c.self.inside.history c.grow_history.new.history _ c.self.inside.tables c.self.inside.room _ _ kept.entries kept.len kept.capacity c.self.invariant
