use Rattle.std.proofs.Common.{sym, ◌∙◌, ap}
use Rattle.std.specs.Option.{option_copied}
use Rattle.fol_pages.specs.Pages.{page_at}
use Rattle.fol_region_tables.specs.Owners.{owner_in, owner_on}
use Rattle.fol_region_tables.proofs.pages.owner.Goals as goal

pub returns-in-Some : goal.returns-in-Some
unfolding owner_in page_at
returns-in-Some c =
    let value = rw c.page_of.ensures at c.get.ensures.value in
    rw c.place_of.ensures.value (ap (λ o. owner_on o c.args.s) (ap option_copied (sym c.in-Some.is) ∙ value))

pub returns-in-None : goal.returns-in-None
unfolding owner_in page_at
returns-in-None c =
    let value = rw c.page_of.ensures at c.get.ensures.value in
    ap (λ o. owner_on o c.args.s) (ap option_copied (sym c.in-None.is) ∙ value)
