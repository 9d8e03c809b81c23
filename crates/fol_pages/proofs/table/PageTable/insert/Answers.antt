use Rattle.std.proofs.Common.{◌∙◌, ap, cond}
use Rattle.std.specs.Prelude.{Some}
use Rattle.std.proofs.lemmas.Result.{IfOk-weaker, on_ok_weaker}
use Rattle.fol_pages.specs.Pages.{is_same, page_at}
use Rattle.fol_pages.specs.Table.{Table}
use Rattle.fol_pages.proofs.table.PageTable.insert.Goals as goal

pub returns-clause-updates : goal.returns-clause-updates
unfolding page_at is_same
returns-clause-updates g c = on_ok_weaker c.insert.result (λ u a b. u.0 (a, b) ∙ ap (λ (t : Table g.row.P.Denot). cond (is_same c.args.key.0 c.args.key.1 a b) (Some c.args.page) (page_at t.entries a b)) (c.self-2.view_is ∙ c.note.ensures)) c.insert.ensures.updates

pub returns-clause-old : goal.returns-clause-old
unfolding page_at
returns-clause-old g c = IfOk-weaker c.insert.result _ _ (λ _ old. old ∙ ap (λ (t : Table g.row.P.Denot). page_at t.entries c.args.key.0 c.args.key.1) (c.self-2.view_is ∙ c.note.ensures)) c.insert.ensures.old
