use Rattle.std.proofs.Common.{sym, ◌∙◌, ap}
use Rattle.std.specs.Option.{option_and_then, option_copied}
use Rattle.fol_sections.specs.Pages.{counts_at, counts_on, page_at, place_of}
use Rattle.fol_sections.proofs.PageSteps.{nobody_in}
use Rattle.fol_sections.proofs.pages.is_unused.Goals as goal

pub returns-in-Some : goal.returns-in-Some
unfolding counts_at page_at
returns-in-Some c = λ unused q on.
    let is = sym (ap option_copied (sym c.in-Some.is) ∙ c.get.ensures.value) in
    (λ i. option_and_then (λ p. counts_on p q) (page_at c.args.pages.now.entries (on.0 i) (on.1 i)))
    ∙ ap (option_and_then (λ p. counts_on p q)) is ∙ nobody_in c.in-Some.page.now.sections (sym c.is_empty.ensures ∙ unused) (place_of q)
