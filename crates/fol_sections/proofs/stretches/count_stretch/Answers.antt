use Rattle.std.proofs.Common.{sym, ◌∙◌, ap, arith}
use Rattle.std.specs.Option.{option_copied}
use Rattle.fol_sections.specs.Pages.{chunks_at, chunks_on, page_at}
use Rattle.fol_sections.proofs.PageStretches.{chunks_nowhere, chunks_there, sum_none, sum_stretch}
use Rattle.fol_sections.proofs.stretches.count_stretch.Goals as goal

pub count_on-requires : goal.count_on-requires
unfolding page_at
count_on-requires c =
    let there = sym (ap option_copied (sym c.in-Some.is) ∙ rw c.page_of.ensures at c.get.ensures.value) in
    let same = sum_stretch (chunks_on c.in-Some.page.now) (chunks_at c.args.pages.now.entries) c.args.first c.args.part.now c.requires.page (λ q on. chunks_there c.args.pages.now.entries c.args.first q on c.in-Some.page.now there) in
    omega (arith, same, c.requires.few)

pub returns-in-Some : goal.returns-in-Some
unfolding page_at
returns-in-Some c =
    let there = sym (ap option_copied (sym c.in-Some.is) ∙ rw c.page_of.ensures at c.get.ensures.value) in
    c.count_on.ensures ∙ sum_stretch (chunks_on c.in-Some.page.now) (chunks_at c.args.pages.now.entries) c.args.first c.args.part.now c.requires.page (λ q on. chunks_there c.args.pages.now.entries c.args.first q on c.in-Some.page.now there)

pub returns-in-None : goal.returns-in-None
unfolding page_at
returns-in-None c =
    let none = sym (ap option_copied (sym c.in-None.is) ∙ rw c.page_of.ensures at c.get.ensures.value) in
    sym (sum_none c.args.part.now) ∙ sum_stretch (λ q. 0) (chunks_at c.args.pages.now.entries) c.args.first c.args.part.now c.requires.page (λ q on. chunks_nowhere c.args.pages.now.entries c.args.first q on none)
