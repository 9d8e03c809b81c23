use Rattle.std.proofs.Common.{sym, ◌∙◌, ap}
use Rattle.std.specs.Prelude.{slice_index_or, None}
use Rattle.std.specs.Option.{option_and_then, option_copied}
use Rattle.fol_sections.specs.Pages.{counts_at, page_at, place_of}
use Rattle.fol_sections.proofs.pages.find.Goals as goal

pub returns-in-Some : goal.returns-in-Some
unfolding counts_at page_at
returns-in-Some c =
    let value = rw c.page_of.ensures at c.get.ensures.value in
    c.kept.ensures.value ∙ ap (λ n. slice_index_or c.in-Some.page.now.sections n None) c.place_of.ensures.value
    ∙ ap (option_and_then (λ p. slice_index_or p.sections (place_of c.args.s) None)) (ap option_copied (sym c.in-Some.is) ∙ value)

pub returns-in-None : goal.returns-in-None
unfolding counts_at page_at
returns-in-None c =
    let value = rw c.page_of.ensures at c.get.ensures.value in
    ap (option_and_then (λ p. slice_index_or p.sections (place_of c.args.s) None)) (ap option_copied (sym c.in-None.is) ∙ value)
