use Rattle.std.proofs.Common.{◌≡◌, refl, sym, ◌∙◌, true, false}
use Rattle.std.proofs.lemmas.Bool.{or_parts, or_right, true≢false}
use Rattle.fol_model.specs.declared.events.Event.TheVariants.{Stop}
use Rattle.fol_model.specs.Run.{world}
use Rattle.fol_core.specs.Answers.{is_over}
use Rattle.fol_core.proofs.Ahead.{event_ahead, over_is}
use Rattle.fol_core.proofs.Marked.{stop_kept}
use Rattle.fol_core.proofs.machine.Core.stop.Goals as goal

pub invariant_of-self : goal.invariant_of-self
invariant_of-self c =
    let s = c.self.invariant.0 in
    let on = sym c.is_over.ensures ∙ c.if-not-is_over.true in
    let going = or_parts _ _ (sym (over_is _ _ _ _ s) ∙ on) in (
      rw c.record.ensures.entries
          (event_ahead _ _ _ s.runs (record { by = c.args.caller; event = Stop c.args.caller }) going.0 going.1 (λ r k. refl) _
          (stop_kept _ _ _ s.stands on c.args.caller c.args.caller c.record.new.course c.record.ensures.size)),
      tt,
      λ e. absurd (true≢false (sym (or_right c.record.new.course.finished true refl) ∙ e)),
      c.self.invariant.3,
    )

pub returns-then-not-is_over : goal.returns-then-not-is_over
returns-then-not-is_over c =
    let on : is_over (world c.self.inside.opening c.self.inside.history.items) ≡ false = sym (over_is _ _ _ _ c.self.invariant.0) ∙ sym c.is_over.ensures ∙ c.if-not-is_over.true in
    rw (← c.self.view_is, on) (record { opening = refl; history = c.record.ensures.entries; prepared = refl })

pub returns-else-not-is_over : goal.returns-else-not-is_over
returns-else-not-is_over c =
    let over : is_over (world c.self.inside.opening c.self.inside.history.items) ≡ true = sym (over_is _ _ _ _ c.self.invariant.0) ∙ sym c.is_over.ensures ∙ c.if-not-is_over.false in
    rw (← c.self.view_is, over) (record { opening = refl; history = refl; prepared = refl; room = refl })
