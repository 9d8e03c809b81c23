use Rattle.std.proofs.Common.{◌≡◌, ◌∙◌, ap, arith}
use Rattle.std.proofs.lemmas.List.Elements.{same_from_all_zip}
use Rattle.fol_sections.specs.Places.{number_at}
use Rattle.fol_sections.specs.Pages.{counts_at}
use Rattle.fol_sections.proofs.Tables.{kept_same, table_same}
use Rattle.fol_sections.proofs.sections.Sections.copy.Goals as goal

pub invariant_of-result : goal.invariant_of-result
unfolding number_at
invariant_of-result c =
    let h : c.in_ok-holds.holds.entries ≡ c.self.inside.holds.entries = same_from_all_zip _ _ _ c.in_ok-holds.ensures.cases (λ x y r. λ i. ((r.0.0 i, r.0.1 i), r.1 i)) in
    let k : c.in_ok-pages.pages.entries ≡ c.self.inside.pages.entries = same_from_all_zip _ _ _ c.in_ok-pages.ensures.cases (λ x y r. λ i. (r.0 i, r.1 i)) in
    let holds = c.reserve.ensures.entries in
    let pages = c.reserve-2.ensures.entries in (
      kept_same c.self.inside.grid c.self.inside.holds.entries _ c.self.inside.pages.entries _
          (λ a b. holds.2 (a, b) ∙ ap (λ es. number_at es a b) h) (λ s. ap (λ es. counts_at es s) (pages ∙ k)) _ c.self.invariant.0,
      record {
        holds = c.in_ok-reserve.ensures.ok;
        pages = omega (arith, c.in_ok-reserve-2.ensures.ok);
        filled = c.in_ok-filled.ensures.room;
        died = c.in_ok-died.ensures.room;
        fits = c.self.invariant.1.fits;
      },
    )

pub returns-clause-same : goal.returns-clause-same
unfolding number_at
returns-clause-same c =
    let h : c.in_ok-holds.holds.entries ≡ c.self.inside.holds.entries = same_from_all_zip _ _ _ c.in_ok-holds.ensures.cases (λ x y r. λ i. ((r.0.0 i, r.0.1 i), r.1 i)) in
    let k : c.in_ok-pages.pages.entries ≡ c.self.inside.pages.entries = same_from_all_zip _ _ _ c.in_ok-pages.ensures.cases (λ x y r. λ i. (r.0 i, r.1 i)) in
    let holds = c.reserve.ensures.entries in
    let pages = c.reserve-2.ensures.entries in
    rw (← c.self.view_is) (table_same c.self.inside.grid c.self.inside.holds.entries _ c.self.inside.pages.entries _
    (λ a b. holds.2 (a, b) ∙ ap (λ es. number_at es a b) h) (λ s. ap (λ es. counts_at es s) (pages ∙ k)) _ c.self.invariant.0 _ _ _ _ _ _)
