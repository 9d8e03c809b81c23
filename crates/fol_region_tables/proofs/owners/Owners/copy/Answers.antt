use Rattle.std.proofs.Common.{◌≡◌, ◌∙◌, ap}
use Rattle.std.proofs.lemmas.List.Elements.{same_from_all_zip}
use Rattle.fol_pages.specs.Pages.{page_at}
use Rattle.fol_region_tables.proofs.PageOwners.{same_owners}
use Rattle.fol_region_tables.proofs.owners.Owners.copy.Goals as goal

pub returns-clause-owner : goal.returns-clause-owner
unfolding page_at
returns-clause-owner c =
    let same : c.in_ok-pages.pages.entries ≡ c.self.inside.pages.entries = same_from_all_zip _ _ _ c.in_ok-pages.ensures.cases (λ x y r. λ i. (r.0 i, r.1 i)) in
    rw (← c.self.view_is) (same_owners c.self.inside.pages.entries _ (λ a b. ap (λ ps. page_at ps a b) c.reserve.ensures.entries ∙ ap (λ ps. page_at ps a b) same))
