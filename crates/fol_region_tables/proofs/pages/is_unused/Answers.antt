use Rattle.std.proofs.Common.{sym, ◌∙◌, ap}
use Rattle.std.specs.Option.{option_copied}
use Rattle.fol_pages.specs.Pages.{page_at, place_of}
use Rattle.fol_region_tables.specs.Owners.{owner_in, owner_on}
use Rattle.fol_region_tables.proofs.PageOwners.{nobody_in}
use Rattle.fol_region_tables.proofs.pages.is_unused.Goals as goal

pub returns-in-Some : goal.returns-in-Some
unfolding owner_in page_at
returns-in-Some c = λ unused q on.
    let is = sym (ap option_copied (sym c.in-Some.is) ∙ c.get.ensures.value) in
    (λ i. owner_on (page_at c.args.pages.now.entries (on.0 i) (on.1 i)) q)
    ∙ ap (λ o. owner_on o q) is ∙ nobody_in c.in-Some.page.now.owners (sym c.is_empty.ensures ∙ unused) (place_of q)
