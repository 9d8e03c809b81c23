use Rattle.std.proofs.Common.{sym, ◌∙◌}
use Rattle.fol_core.proofs.AheadAnswers.{finish_in_phase, finish_outside, finish_over, none_outside, none_stands, stands_none}
use Rattle.fol_core.proofs.Marked.{finish_kept}
use Rattle.fol_core.proofs.machine.Core.finish.Goals as goal

pub invariant_of-self : goal.invariant_of-self
invariant_of-self c =
    let none = none_outside _ _ _ _ c.self.invariant.0 c.if-self.false in (
      rw c.record.ensures.entries
          (stands_none _ _ _ none _
          (finish_kept _ _ _ (none_stands _ _ _ _ c.self.invariant.0 none) (sym c.is_over.ensures ∙ c.if-is_over.false) c.args.by c.record.new.course c.record.ensures.size c.if-self.false c.if-self-ge-MOST.false)),
      tt,
      λ e. absurd (cc),
      c.self.invariant.3,
    )

pub returns-then-is_over-clause-answer : goal.returns-then-is_over-clause-answer
returns-then-is_over-clause-answer c = rw (← c.self.view_is) (finish_over _ _ _ _ c.self.invariant.0 (sym c.is_over.ensures ∙ c.if-is_over.true))

pub returns-then-self-clause-answer : goal.returns-then-self-clause-answer
returns-then-self-clause-answer c = rw (← c.self.view_is) (finish_in_phase _ _ _ _ c.self.invariant.0 (sym c.is_over.ensures ∙ c.if-is_over.false) c.if-self.true)

pub returns-clause-answer : goal.returns-clause-answer
returns-clause-answer c = rw (← c.self.view_is) (finish_outside _ _ _ _ c.self.invariant.0 (sym c.is_over.ensures ∙ c.if-is_over.false) c.if-self.false)
