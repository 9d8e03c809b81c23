use Rattle.std.proofs.Common.{sym, ◌∙◌}
use Rattle.fol_core.proofs.AheadAnswers.{state_marked, state_unmarked}
use Rattle.fol_core.proofs.machine.Core.state.Goals as goal

pub returns-then-has : goal.returns-then-has
returns-then-has c = rw (← c.self.view_is) (state_marked _ _ _ _ c.self.invariant.0 c.args.id (sym c.has.ensures ∙ c.if-has.true))

pub returns : goal.returns
returns c = rw (← c.self.view_is) (c.state.ensures ∙ state_unmarked _ _ _ _ c.self.invariant.0 c.args.id (sym c.has.ensures ∙ c.if-has.false))
