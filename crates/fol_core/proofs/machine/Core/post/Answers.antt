use Rattle.std.proofs.Common.{ap, sym, ◌∙◌, arith}
use Rattle.fol_model.specs.declared.events.Event.TheVariants.{Post}
use Rattle.fol_world.specs.declared.tables.Course.{Course}
use Rattle.fol_core.proofs.Ahead.{event_ahead, finished_is, same_ahead}
use Rattle.fol_core.proofs.AheadAnswers.{post_now, post_over, posting_same}
use Rattle.fol_world.proofs.Held.{can_hold, few_jobs}
use Rattle.fol_core.proofs.PostKept.{accept_same, fresh_number, post_kept}
use Rattle.fol_core.proofs.Rooms.{places_left, room_left, same_places, same_room}
use Rattle.fol_core.proofs.machine.Core.post.Goals as goal

pub invariant_of-self : goal.invariant_of-self
invariant_of-self c = (
  rw c.in-Err.ensures.entries (same_ahead _ _ _ _ c.self.invariant.0 _ c.in-Err.ensures.same),
  tt,
  same_room _ _ _ _ _ _ _ c.in-Err.ensures.same.course c.in-Err.ensures.len c.in-Err.ensures.capacity c.self.invariant.2,
  same_places _ _ _ c.in-Err.ensures.same c.self.invariant.3,
)

pub invariant_of-self-in-Err-memory_to_post : goal.invariant_of-self-in-Err-memory_to_post
invariant_of-self-in-Err-memory_to_post c = (
  rw c.in-Ok.ensures.entries (same_ahead _ _ _ _ c.self.invariant.0 _ c.in-Ok.ensures.same),
  tt,
  same_room _ _ _ _ _ _ _ c.in-Ok.ensures.same.course c.in-Ok.ensures.len c.in-Ok.ensures.capacity c.self.invariant.2,
  same_places _ _ _ c.in-Ok.ensures.same c.self.invariant.3,
)

pub posted-answer-requires-clause-can : goal.posted-answer-requires-clause-can
posted-answer-requires-clause-can c =
    let s = same_ahead _ _ _ _ c.self.invariant.0 _ c.in-Ok.ensures.same in
    can_hold _ _ _ s.stands c.args.c c.requires.in_range c.grow.new.history 1 _ c.in-Ok.ensures.ok

pub posted-answer-requires-clause-fresh : goal.posted-answer-requires-clause-fresh
posted-answer-requires-clause-fresh c =
    let s = same_ahead _ _ _ _ c.self.invariant.0 _ c.in-Ok.ensures.same in
    fresh_number _ _ _ s.stands c.args.c c.args.delay c.args.action

pub posted-answer-requires-clause-few : goal.posted-answer-requires-clause-few
posted-answer-requires-clause-few c =
    let s = same_ahead _ _ _ _ c.self.invariant.0 _ c.in-Ok.ensures.same in
    omega (arith, s.stands.fits.course.next_job, few_jobs _ _ _ s.stands, c.in-Ok.ensures.ok.size)

pub invariant_of-self-2 : goal.invariant_of-self-2
invariant_of-self-2 c =
    let s = same_ahead _ _ _ _ c.self.invariant.0 _ c.in-Ok.ensures.same in
    let off = ap (λ (x : Course). x.finished) c.in-Ok.ensures.same.course ∙ c.if-self.false in (
      rw (c.record_in.ensures.entries, c.in-Ok.ensures.entries)
          (event_ahead _ _ _ s.runs (record { by = c.args.caller; event = Post c.args.caller c.args.c c.args.delay c.args.action c.posted-answer.result }) (sym (finished_is _ _ _ _ s) ∙ off) (
            c.requires.in_range,
            c.requires.delay,
            c.requires.action,
            c.requires.may_be_posted,
            accept_same _ _ _ s.stands c.args.c c.args.delay c.args.action _ c.posted-answer.ensures.answer ∙ posting_same _ _ _ _ s c.args.c,
          ) (rw (← c.self.view_is) at c.requires.spares) _
          (post_kept _ _ _ s.stands c.args.c c.args.delay c.args.action c.requires.in_range c.requires.delay c.requires.action c.requires.may_be_posted
          c.args.caller c.args.caller c.posted-answer.result c.posted-answer.ensures.answer c.posted-answer.new.tables c.record_in.new.course c.record_in.ensures.size off c.in-Ok.ensures.ok.size
          (rw c.in-Ok-memory_to_post.ensures at c.posted-answer.ensures.done))),
      tt,
      room_left c.record_in.new.course _ _ _ _ _ _ c.count.ensures.count c.in-Ok.ensures.ok.history c.record_in.ensures.len c.record_in.ensures.capacity,
      places_left 1 _ _ _ _ c.count.ensures.count c.in-Ok.ensures.ok.agenda c.posted-answer.ensures.stack,
    )

pub returns-then-self-clause-answer : goal.returns-then-self-clause-answer
returns-then-self-clause-answer c = rw (← c.self.view_is) (post_over _ _ _ _ c.self.invariant.0 c.args.c c.args.action c.if-self.true)

pub returns-clause-answer : goal.returns-clause-answer
returns-clause-answer c =
    let s = same_ahead _ _ _ _ c.self.invariant.0 _ c.in-Ok.ensures.same in
    rw (← c.self.view_is) (post_now _ _ _ _ s c.args.c c.args.action c.posted-answer.result _ (ap (λ (x : Course). x.finished) c.in-Ok.ensures.same.course ∙ c.if-self.false)
    (accept_same _ _ _ s.stands c.args.c c.args.delay c.args.action _ c.posted-answer.ensures.answer ∙ posting_same _ _ _ _ s c.args.c) c.posting.ensures)
