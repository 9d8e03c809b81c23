use Rattle.std.proofs.Common.{◌∙◌, ap, refl, sym, subst, cond, true≢false}
use Rattle.std.specs.Prelude.{Some, is_some}
use Rattle.fol_pages.specs.Pages.{is_same, page_at}
use Rattle.fol_pages.specs.Table.{LiesAt, Table}
use Rattle.fol_pages.proofs.TableSteps.{page_there, written_there}
use Rattle.fol_pages.proofs.table.PageTable.get_mut.Goals as goal

pub returns-in-Some : goal.returns-in-Some
returns-in-Some g c =
    let m = c.self.inside.map in
    let x = c.args.key.0 in
    let z = c.args.key.1 in
    let h = c.self.view_is ∙ c.in-Some.ensures.same in
    let lies = subst (λ (t : Table g.row.P.Denot). LiesAt t.entries x z c.in-Some.index) (sym h) c.in-Some.ensures.found in (
      (
        refl,
        λ w. record {
          spare = ap (λ (t : Table g.row.P.Denot). t.spare) h;
          updates = λ _ a b. written_there m x z c.in-Some.index lies c.get_index_mut.ensures.unique w a b ∙ ap (λ (t : Table g.row.P.Denot). cond (is_same x z a b) (Some w) (page_at t.entries a b)) h;
        },
        h,
      ),
      record { writes_back = tt; value = c.get_index_mut.ensures.value ∙ page_there m.entries x z c.in-Some.index lies ∙ ap (λ (t : Table g.row.P.Denot). page_at t.entries x z) h },
    )

pub returns-in-None : goal.returns-in-None
returns-in-None g c =
    let h = c.self.view_is ∙ c.in-None.ensures.same in
    let absent = c.in-None.ensures.absent in (
      (
        refl,
        λ w. record {
          spare = ap (λ (t : Table g.row.P.Denot). t.spare) h;
          updates = λ there. absurd (true≢false (sym there ∙ ap is_some absent));
        },
        h,
      ),
      record { writes_back = tt; value = sym absent },
    )
