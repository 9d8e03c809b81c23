use Rattle.std.proofs.Common.{◌∙◌, ap, sym}
use Rattle.std.specs.Prelude.{ℤ}
use Rattle.fol_pages.specs.Pages.{page_at}
use Rattle.fol_pages.specs.Table.{Table}
use Rattle.fol_pages.proofs.TableSteps.{key_same}
use Rattle.fol_pages.proofs.table.PageTable.get.Goals as goal

pub returns-then-eq : goal.returns-then-eq
unfolding page_at
returns-then-eq g c =
    let k = key_same c.in-Some-get_index.found.now c.args.key (sym c.eq.ensures ∙ c.if-eq.true) in
    record { value = sym c.in-Some-get_index.ensures.value ∙ ap (λ (key : ℤ × ℤ). page_at c.self.inside.map.entries key.0 key.1) k ∙ ap (λ (t : Table g.row.P.Denot). page_at t.entries c.args.key.0 c.args.key.1) c.self.view_is }

pub returns : goal.returns
unfolding page_at
returns g c = record { value = c.get.ensures.value ∙ ap (λ (t : Table g.row.P.Denot). page_at t.entries c.args.key.0 c.args.key.1) c.self.view_is }
