use Rattle.std.proofs.Common.{ap, sym, ◌∙◌}
use Rattle.fol_model.specs.declared.events.Event.TheVariants.{Load}
use Rattle.fol_world.specs.declared.tables.Course.{Course}
use Rattle.fol_core.proofs.Ahead.{event_ahead, finished_is, same_ahead}
use Rattle.fol_core.proofs.AheadAnswers.{load_now, load_over, load_told}
use Rattle.fol_world.proofs.Held.{can_hold}
use Rattle.fol_core.proofs.LoadKept.{load_kept}
use Rattle.fol_core.proofs.Rooms.{places_left, room_left, same_places, same_room}
use Rattle.fol_core.proofs.machine.Core.load.Goals as goal

pub invariant_of-self : goal.invariant_of-self
invariant_of-self c = (
  rw c.in_err-grow.ensures.entries (same_ahead _ _ _ _ c.self.invariant.0 _ c.in_err-grow.ensures.same),
  tt,
  same_room _ _ _ _ _ _ _ c.in_err-grow.ensures.same.course c.in_err-grow.ensures.len c.in_err-grow.ensures.capacity c.self.invariant.2,
  same_places _ _ _ c.in_err-grow.ensures.same c.self.invariant.3,
)

pub loaded-answer-requires : goal.loaded-answer-requires
loaded-answer-requires c =
    let s = same_ahead _ _ _ _ c.self.invariant.0 _ c.in_ok-grow.ensures.same in
    can_hold _ _ _ s.stands c.args.c c.requires.in_range c.grow.new.history 0 _ c.in_ok-grow.ensures.ok

pub invariant_of-self-2 : goal.invariant_of-self-2
invariant_of-self-2 c =
    let s = same_ahead _ _ _ _ c.self.invariant.0 _ c.in_ok-grow.ensures.same in
    let off = ap (λ (x : Course). x.finished) c.in_ok-grow.ensures.same.course ∙ c.if-self.false in (
      rw (c.record.ensures.entries, c.in_ok-grow.ensures.entries)
          (event_ahead _ _ _ s.runs (record { by = c.args.caller; event = Load c.args.caller c.args.c c.loaded-answer.result }) (sym (finished_is _ _ _ _ s) ∙ off)
          (c.requires.in_range, load_told _ _ _ _ s c.args.c _ c.loaded-answer.ensures.answer) (rw (← c.self.view_is) at c.requires.spares) _
          (load_kept _ _ _ s.stands c.args.c c.requires.in_range c.args.caller c.args.caller c.loaded-answer.result c.loaded-answer.new.tables c.record.new.course
          c.loaded-answer.ensures.held c.loaded-answer.ensures.tickets c.loaded-answer.ensures.answer c.record.ensures.size off c.in_ok-grow.ensures.ok.size)),
      tt,
      room_left c.record.new.course _ _ _ _ _ _ c.count.ensures.count c.in_ok-grow.ensures.ok.history c.record.ensures.len c.record.ensures.capacity,
      places_left 1 _ _ _ _ c.count.ensures.count c.in_ok-grow.ensures.ok.agenda c.loaded-answer.ensures.stack,
    )

pub returns-then-self-clause-answer : goal.returns-then-self-clause-answer
returns-then-self-clause-answer c = rw (← c.self.view_is) (load_over _ _ _ _ c.self.invariant.0 c.args.c c.if-self.true)

pub returns-clause-answer : goal.returns-clause-answer
returns-clause-answer c =
    let s = same_ahead _ _ _ _ c.self.invariant.0 _ c.in_ok-grow.ensures.same in
    rw (← c.self.view_is) (load_now _ _ _ _ s c.args.c c.loaded-answer.result (ap (λ (x : Course). x.finished) c.in_ok-grow.ensures.same.course ∙ c.if-self.false) c.loaded-answer.ensures.answer)
