use Rattle.std.proofs.Common.{◌≡◌, false, rules, refl, sym, ◌∙◌, ap}
use Rattle.fol_model.specs.GridState.{is_ready}
use Rattle.fol_core.proofs.AheadTouched.{is_ready_answer, ready_marked, ready_unmarked}
use Rattle.fol_core.proofs.machine.Core.is_ready.Goals as goal

pub returns-then-has : goal.returns-then-has
returns-then-has c = rw (← c.self.view_is) (sym (ready_marked _ _ _ _ c.self.invariant.0 c.args.id (sym c.has.ensures ∙ c.if-has.true)))

pub returns-in-Some-Ready : goal.returns-in-Some-Ready
returns-in-Some-Ready c =
    let ready = c.in-Some-Ready.field-0-is in
    rw (← c.self.view_is) (sym (ready_unmarked _ _ _ _ c.self.invariant.0 c.args.id (sym c.has.ensures ∙ c.if-has.false) ∙ ap is_ready_answer (sym c.state.ensures ∙ c.in-Some-Ready.is) ∙ rw ready refl))

pub returns-in_default : goal.returns-in_default
returns-in_default c =
    let other : is_ready c.in_default.field-0 ≡ false = search rules in
    rw (← c.self.view_is) (sym (ready_unmarked _ _ _ _ c.self.invariant.0 c.args.id (sym c.has.ensures ∙ c.if-has.false) ∙ ap is_ready_answer (sym c.state.ensures ∙ c.in_default.is) ∙ other))

pub returns-in_default-2 : goal.returns-in_default-2
returns-in_default-2 c = rw (← c.self.view_is) (sym (ready_unmarked _ _ _ _ c.self.invariant.0 c.args.id (sym c.has.ensures ∙ c.if-has.false) ∙ ap is_ready_answer (sym c.state.ensures ∙ c.in_default.is)))
