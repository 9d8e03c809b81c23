use Rattle.std.proofs.Common.{sym, ◌∙◌, ap}
use Rattle.std.specs.Prelude.{pos, ◌+ℤ◌, slice_index_or}
use Rattle.std.specs.Option.{option_copied}
use Rattle.fol_model.specs.declared.places.SectionPos.{SectionPos}
use Rattle.fol_pages.specs.Pages.{page_at}
use Rattle.fol_pages.proofs.PageRuns.{run_page, run_place}
use Rattle.fol_region_tables.specs.Owners.{owner_in, owner_on}
use Rattle.fol_region_tables.proofs.pages.run.Goals as goal

pub returns-in-Some-clause-owners : goal.returns-in-Some-clause-owners
unfolding owner_in page_at
returns-in-Some-clause-owners c = λ i l.
    let value = rw c.page_of.ensures at c.get.ensures.value in
    let s : SectionPos = record { x = c.args.s.x +ℤ pos i; z = c.args.s.z } in
    let there = ap (λ o. owner_on o s) (ap option_copied (sym c.in-Some.is) ∙ value) in
    let page = run_page c.args.s c.args.len c.requires i l in
    let place = run_place c.args.s c.args.len c.requires i l in
    rw page (c.run_on.ensures.owners i l ∙ ap (λ k. slice_index_or c.in-Some.page.now.owners k 0) (sym place) ∙ there)

pub returns-in-None-clause-owners : goal.returns-in-None-clause-owners
unfolding owner_in page_at
returns-in-None-clause-owners c = λ i l.
    let value = rw c.page_of.ensures at c.get.ensures.value in
    let s : SectionPos = record { x = c.args.s.x +ℤ pos i; z = c.args.s.z } in
    let page = run_page c.args.s c.args.len c.requires i l in
    rw page (ap (λ o. owner_on o s) (ap option_copied (sym c.in-None.is) ∙ value))
