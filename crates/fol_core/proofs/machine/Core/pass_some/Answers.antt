use Rattle.std.proofs.Common.{◌+◌, ◌*◌, ◌++◌, refl, ◌∙◌, sym, ap, arith}
use Rattle.fol_world.specs.declared.tables.Course.{Course}
use Rattle.fol_core.specs.Quiet.{quiet_ticks}
use Rattle.fol_core.proofs.AheadQuietTicks.{course_stays, recorded_ahead, recorded_counter, stack_stays, ticks_recorded}
use Rattle.fol_core.proofs.QuietKept.{counter_most, in_limits, in_order}
use Rattle.fol_core.proofs.QuietRuns.{passes_none, passes_still}
use Rattle.fol_core.proofs.Rooms.{not_grown, room_left_by}
use Rattle.fol_core.proofs.machine.Core.pass_some.Goals as goal

pub returns-then-is_over-clause-passed : goal.returns-then-is_over-clause-passed
returns-then-is_over-clause-passed c = rw (← c.self.view_is) (passes_none _ c.args.worker c.args.id)

pub returns-then-ticks-eq0-clause-passed : goal.returns-then-ticks-eq0-clause-passed
returns-then-ticks-eq0-clause-passed c = rw (← c.self.view_is) (passes_none _ c.args.worker c.args.id)

pub invariant_of-self-in-Err : goal.invariant_of-self-in-Err
invariant_of-self-in-Err c =
    let kept = c.in-Err.ensures in
    not_grown c.self.inside.opening c.self.inside.history c.grow_ticks.new.history _ c.self.inside.tables c.self.inside.room _ _ kept.entries kept.len kept.capacity c.self.invariant

pub returns-in-Err-clause-passed : goal.returns-in-Err-clause-passed
returns-in-Err-clause-passed c =
    rw (← c.self.view_is) (passes_still _ _ _ _ _ _ (passes_none _ c.args.worker c.args.id) (record { opening = refl; history = c.in-Err.ensures.entries; prepared = refl }))

pub pass_ticks-before-requires-clause-early : goal.pass_ticks-before-requires-clause-early
pass_ticks-before-requires-clause-early c =
    let most = counter_most _ _ _ c.self.invariant.0.stands c.args.id (c.quiet_ticks-ticks.ensures.quiet (omega (arith, c.if-ticks-eq0.false))).each.owing in
    omega (arith, most, c.quiet_ticks-ticks.ensures.few, c.ranges.most.fits)

pub pass_ticks-before-requires-clause-order : goal.pass_ticks-before-requires-clause-order
pass_ticks-before-requires-clause-order c = in_order _ _ _ c.self.invariant.0.stands c.args.id (c.quiet_ticks-ticks.ensures.quiet (omega (arith, c.if-ticks-eq0.false))).each

pub pass_ticks-before-requires-clause-places : goal.pass_ticks-before-requires-clause-places
pass_ticks-before-requires-clause-places c = in_limits _ _ _ c.self.invariant.0.stands c.args.id (c.quiet_ticks-ticks.ensures.quiet (omega (arith, c.if-ticks-eq0.false))).each

pub record_ticks-requires-clause-early : goal.record_ticks-requires-clause-early
record_ticks-requires-clause-early c =
    let most = counter_most _ _ _ c.self.invariant.0.stands c.args.id (c.quiet_ticks-ticks.ensures.quiet (omega (arith, c.if-ticks-eq0.false))).each.owing in
    omega (arith, most, c.pass_ticks-before.ensures.counter, c.quiet_ticks-ticks.ensures.few, c.ranges.most.fits)

pub overflow_add-tables : goal.overflow_add-tables
overflow_add-tables c =
    let same = ap (λ (x : Course). x.size) (course_stays _ _ _ _ c.pass_ticks-before.ensures.passed) in
    omega (arith, same, c.in-Ok.ensures.size)

pub invariant_of-self-2 : goal.invariant_of-self-2
invariant_of-self-2 c = let stack = stack_stays _ _ _ _ c.pass_ticks-before.ensures.passed in (
  recorded_ahead _ _ _ _ c.self.invariant.0 c.args.id c.quiet_ticks-ticks.result (c.quiet_ticks-ticks.ensures.quiet (omega (arith, c.if-ticks-eq0.false))).each c.pass_ticks-before.new.tables c.pass_ticks-before.ensures.passed c.args.worker
      (sym c.is_over.ensures ∙ c.if-is_over.false) c.in-Ok.ensures.size c.pass_ticks-before.result c.pass_ticks-before.ensures.counter c.record_ticks.new.history.items
      (c.record_ticks.ensures.entries ∙ ap (λ es. es ++ quiet_ticks c.args.worker c.args.id c.pass_ticks-before.result c.quiet_ticks-ticks.result) c.in-Ok.ensures.entries),
  tt,
  room_left_by (record c.pass_ticks-before.new.tables.course { size = c.pass_ticks-before.new.tables.course.size + 2 * c.quiet_ticks-ticks.result }) _ _ _ _ _ _ _ c.count.ensures.count c.in-Ok.ensures.room
      c.record_ticks.ensures.len c.record_ticks.ensures.capacity,
  omega (arith, c.self.invariant.3, stack.len, stack.capacity),
)

pub returns-clause-passed : goal.returns-clause-passed
returns-clause-passed c = rw (← c.self.view_is) (record {
  opening = refl;
  history = ticks_recorded _ _ _ _ c.self.invariant.0 c.args.id c.quiet_ticks-ticks.result (c.quiet_ticks-ticks.ensures.quiet (omega (arith, c.if-ticks-eq0.false))).each c.pass_ticks-before.new.tables c.pass_ticks-before.ensures.passed c.args.worker
      (sym c.is_over.ensures ∙ c.if-is_over.false) c.in-Ok.ensures.size c.pass_ticks-before.result c.pass_ticks-before.ensures.counter c.record_ticks.new.history.items
      (c.record_ticks.ensures.entries ∙ ap (λ es. es ++ quiet_ticks c.args.worker c.args.id c.pass_ticks-before.result c.quiet_ticks-ticks.result) c.in-Ok.ensures.entries);
  prepared = refl;
})

pub returns-clause-counter : goal.returns-clause-counter
returns-clause-counter c = rw (← c.self.view_is) (recorded_counter _ _ _ _ c.self.invariant.0 c.args.id c.quiet_ticks-ticks.result (c.quiet_ticks-ticks.ensures.quiet (omega (arith, c.if-ticks-eq0.false))).each c.pass_ticks-before.new.tables c.pass_ticks-before.ensures.passed c.args.worker
    (sym c.is_over.ensures ∙ c.if-is_over.false) c.in-Ok.ensures.size c.pass_ticks-before.result c.pass_ticks-before.ensures.counter c.record_ticks.new.history.items
    (c.record_ticks.ensures.entries ∙ ap (λ es. es ++ quiet_ticks c.args.worker c.args.id c.pass_ticks-before.result c.quiet_ticks-ticks.result) c.in-Ok.ensures.entries))
