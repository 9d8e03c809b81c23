use Rattle.std.proofs.Common.{◌∙◌}
use Rattle.std.proofs.lemmas.Result.{IfOk-weaker}
use Rattle.fol_regions.proofs.TableSteps as steps
use Rattle.fol_regions.proofs.regions.Regions.new.Goals as goal

pub of_parts-requires : goal.of_parts-requires
of_parts-requires c =
    let ok = rw c.grid.view_is at c.grid.invariant in
    steps.new_kept c.args.grid c.in_ok-sections.sections c.in_ok-tables.tables c.keeps_lists.ensures c.in_ok-sections.ensures.grid c.in_ok-sections.ensures.empty c.in_ok-tables.ensures.owner c.in_ok-tables.ensures.live c.keeps_states.ensures c.in_ok-tables.ensures.next ok

pub returns : goal.returns
returns c = record {
  empty = IfOk-weaker c.of_parts.result _ _
      (λ t e. e ∙ steps.new_state c.args.grid c.in_ok-sections.sections c.in_ok-tables.tables c.keeps_lists.ensures c.in_ok-sections.ensures.grid c.in_ok-sections.ensures.empty c.in_ok-tables.ensures.owner c.in_ok-tables.ensures.live c.keeps_states.ensures c.in_ok-tables.ensures.next)
      c.of_parts.ensures.state;
  last = IfOk-weaker c.of_parts.result _ _ (λ t e. e ∙ c.in_ok-change.ensures) c.of_parts.ensures.last;
}
