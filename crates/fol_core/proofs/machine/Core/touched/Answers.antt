use Rattle.std.proofs.Common.{rules, ◌≡◌, ◌∙◌}
use Rattle.std.specs.Prelude.{filter}
use Rattle.std.proofs.lemmas.Fn.{filter_same}
use Rattle.fol_model.specs.GridState.{is_ready}
use Rattle.fol_model.specs.Run.{world}
use Rattle.fol_core.proofs.AheadTouched.{given_marked, ready_touched}
use Rattle.fol_core.proofs.machine.Core.touched.Goals as goal

pub returns-clause-listed : goal.returns-clause-listed
returns-clause-listed c =
    let kept : c.retain.new.self.items ≡ filter (λ r. is_ready ((world c.self.inside.opening c.self.inside.history.items).grid.state r)) c.in_ok-ids.ids.items =
    filter_same _ (λ r. is_ready ((world c.self.inside.opening c.self.inside.history.items).grid.state r)) _ (λ x b f k. search rules) _ _ c.retain.ensures.filtered in
    rw (← c.self.view_is) (kept ∙ ready_touched _ _ _ _ c.self.invariant.0 c.args.c c.in_ok-ids.ids.items c.in_ok-ids.ensures.listed)

pub returns-clause-ready : goal.returns-clause-ready
returns-clause-ready c = rw (← c.self.view_is) (given_marked _ _ _ _ c.self.invariant.0)

pub returns-in_err-ids-clause-ready : goal.returns-in_err-ids-clause-ready
returns-in_err-ids-clause-ready c = rw (← c.self.view_is) (given_marked _ _ _ _ c.self.invariant.0)

pub invariant_of-self : goal.invariant_of-self
invariant_of-self c = rw c.list_touched.ensures.same c.self.invariant

pub invariant_of-self-2 : goal.invariant_of-self-2
invariant_of-self-2 c = rw c.list_touched.ensures.same c.self.invariant
