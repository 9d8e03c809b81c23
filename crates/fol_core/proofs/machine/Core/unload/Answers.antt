use Rattle.std.proofs.Common.{ap, sym, ◌∙◌}
use Rattle.fol_model.specs.declared.events.Event.TheVariants.{Unload}
use Rattle.fol_world.specs.declared.tables.Course.{Course}
use Rattle.fol_core.proofs.Ahead.{event_ahead, finished_is, same_ahead}
use Rattle.fol_core.proofs.AheadAnswers.{unload_over, unload_result_same, unload_same}
use Rattle.fol_core.proofs.Rooms.{room_left, same_places, same_room}
use Rattle.fol_core.proofs.UnloadKept.{owner_drops, owner_known, owner_loses, unload_answers, unload_kept, unload_told}
use Rattle.fol_core.proofs.machine.Core.unload.Goals as goal

pub invariant_of-self : goal.invariant_of-self
invariant_of-self c = (
  rw c.in_err-grow.ensures.entries (same_ahead _ _ _ _ c.self.invariant.0 _ c.in_err-grow.ensures.same),
  tt,
  same_room _ _ _ _ _ _ _ c.in_err-grow.ensures.same.course c.in_err-grow.ensures.len c.in_err-grow.ensures.capacity c.self.invariant.2,
  same_places _ _ _ c.in_err-grow.ensures.same c.self.invariant.3,
)

pub unloaded-answer-requires : goal.unloaded-answer-requires
unloaded-answer-requires c =
    let s = same_ahead _ _ _ _ c.self.invariant.0 _ c.in_ok-grow.ensures.same in
    record {
      known = owner_known _ _ _ s.stands c.args.c;
      near = owner_loses _ _ _ s.stands c.args.c;
      no_task = owner_drops _ _ _ s.stands c.args.c;
    }

pub invariant_of-self-2 : goal.invariant_of-self-2
invariant_of-self-2 c =
    let s = same_ahead _ _ _ _ c.self.invariant.0 _ c.in_ok-grow.ensures.same in
    let off = ap (λ (x : Course). x.finished) c.in_ok-grow.ensures.same.course ∙ c.if-self.false in (
      rw (c.record.ensures.entries, c.in_ok-grow.ensures.entries)
          (event_ahead _ _ _ s.runs (record { by = c.args.caller; event = Unload c.args.caller c.args.c c.unloaded-answer.result }) (sym (finished_is _ _ _ _ s) ∙ off)
          (c.requires.in_range, unload_told _ _ _ s.stands c.args.c _ c.unloaded-answer.ensures.answer ∙ unload_same _ _ _ _ s c.args.c) (rw (← c.self.view_is) at c.requires.spares) _
          (unload_kept _ _ _ s.stands c.args.c c.args.caller c.args.caller c.unloaded-answer.result c.unloaded-answer.new.tables c.record.new.course
          c.requires.in_range c.unloaded-answer.ensures.done c.unloaded-answer.ensures.answer c.record.ensures.size off c.in_ok-grow.ensures.ok.size)),
      tt,
      room_left c.record.new.course _ _ _ _ _ _ c.count.ensures.count c.in_ok-grow.ensures.ok.history c.record.ensures.len c.record.ensures.capacity,
      rw c.unloaded-answer.ensures.stack (same_places _ _ _ c.in_ok-grow.ensures.same c.self.invariant.3),
    )

pub returns-then-self-clause-answer : goal.returns-then-self-clause-answer
returns-then-self-clause-answer c = rw (← c.self.view_is) (unload_over _ _ _ _ c.self.invariant.0 c.args.c c.if-self.true)

pub returns-clause-answer : goal.returns-clause-answer
returns-clause-answer c =
    let s = same_ahead _ _ _ _ c.self.invariant.0 _ c.in_ok-grow.ensures.same in
    rw (← c.self.view_is) (unload_answers _ _ _ s.stands c.args.c c.unloaded-answer.result (ap (λ (x : Course). x.finished) c.in_ok-grow.ensures.same.course ∙ c.if-self.false) c.unloaded-answer.ensures.answer ∙ unload_result_same _ _ _ _ s c.args.c)
