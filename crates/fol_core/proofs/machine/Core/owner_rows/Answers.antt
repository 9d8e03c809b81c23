use Rattle.std.proofs.Common.{◌∙◌}
use Rattle.std.proofs.lemmas.Result.{IfOk-weaker}
use Rattle.fol_core.proofs.AheadAnswers.{owners_now}
use Rattle.fol_core.proofs.machine.Core.owner_rows.Goals as goal

pub returns : goal.returns
returns c =
    let inside = c.self.inside in
    rw (← c.self.view_is) (IfOk-weaker c.list_owners.result _ _ (λ v e. e ∙ owners_now inside.opening inside.history.items _ inside.tables c.self.invariant.0) c.list_owners.ensures)
