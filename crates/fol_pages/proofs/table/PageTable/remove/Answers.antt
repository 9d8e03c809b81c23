use Rattle.std.proofs.Common.{◌∙◌, ap, sym, subst, cond, arith}
use Rattle.std.specs.Prelude.{None, IfSome}
use Rattle.indexmap.specs.IndexMap.{Updates}
use Rattle.fol_pages.specs.Pages.{is_same, page_at}
use Rattle.fol_pages.specs.Table.{LiesAt, Table}
use Rattle.fol_pages.proofs.TableSteps.{same_key, none_there}
use Rattle.fol_pages.proofs.table.PageTable.remove.Goals as goal

pub returns-after-swap_remove_index-clause-updates : goal.returns-after-swap_remove_index-clause-updates
unfolding page_at is_same
returns-after-swap_remove_index-clause-updates g c = λ a b.
    let h = c.self.view_is ∙ c.in-Some.ensures.same in
    let lies = subst (λ (t : Table g.row.P.Denot). LiesAt t.entries c.args.key.0 c.args.key.1 c.in-Some.index) (sym h) c.in-Some.ensures.found in
    let gone = subst (λ o. IfSome o (λ p. Updates same_key c.self.inside.map c.swap_remove_index.new.self p.0 None)) (c.swap_remove_index.ensures.entry ∙ lies.there) c.swap_remove_index.ensures.updates in
    gone.0 (a, b) ∙ ap (λ (t : Table g.row.P.Denot). cond (is_same c.args.key.0 c.args.key.1 a b) None (page_at t.entries a b)) h

pub returns-in-None : goal.returns-in-None
returns-in-None g c = record {
  value = sym c.in-None.ensures.absent;
  updates = λ a b. ap (λ (t : Table g.row.P.Denot). page_at t.entries a b) c.in-None.ensures.same ∙ none_there c.args.self.now.entries c.args.key.0 c.args.key.1 c.in-None.ensures.absent a b;
  spare = omega (arith, ap (λ (t : Table g.row.P.Denot). t.spare) c.in-None.ensures.same);
}
