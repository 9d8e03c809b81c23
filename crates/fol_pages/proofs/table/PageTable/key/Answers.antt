use Rattle.std.proofs.Common.{refl, subst, sym}
use Rattle.fol_pages.specs.Pages.{page_at}
use Rattle.fol_pages.specs.Table.{LiesAt, Table}
use Rattle.fol_pages.proofs.TableSteps.{lies_there}
use Rattle.fol_pages.proofs.table.PageTable.key.Goals as goal

pub returns : goal.returns
unfolding page_at
returns g c =
    subst (λ (t : Table g.row.P.Denot). LiesAt t.entries c.in_ok-key.key.now.0 c.in_ok-key.key.now.1 c.args.index) c.self.view_is (lies_there c.self.inside.map c.in_ok-key.key.now c.in_ok-key.key.now c.args.index c.in_ok-key.field-0-1.now refl (sym c.in_ok-key.ensures.entry) c.in_ok-key.ensures.value)
