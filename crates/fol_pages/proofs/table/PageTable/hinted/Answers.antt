use Rattle.std.proofs.Common.{◌∙◌, sym, subst}
use Rattle.fol_pages.specs.Pages.{page_at}
use Rattle.fol_pages.specs.Table.{LiesAt, Table}
use Rattle.fol_pages.proofs.TableSteps.{key_same, lies_there}
use Rattle.fol_pages.proofs.table.PageTable.hinted.Goals as goal

pub returns-then-eq : goal.returns-then-eq
unfolding page_at
returns-then-eq g c =
    let k = key_same c.in_ok-found.found.now c.args.key (sym c.eq.ensures ∙ c.if-eq.true) in
    subst (λ (t : Table g.row.P.Denot). LiesAt t.entries c.args.key.0 c.args.key.1 c.in_ok-index.index) c.self.view_is (lies_there c.self.inside.map c.args.key c.in_ok-found.found.now c.in_ok-index.index c.in_ok-found.field-0-1.now k (sym c.in_ok-found.ensures.entry) c.in_ok-found.ensures.value)
