use Rattle.std.proofs.Common.{◌++◌, sym, ◌∙◌, ap}
use Rattle.std.specs.Prelude.{nat_eq, nat_lt}
use Rattle.std.specs.Option.{option_copied}
use Rattle.fol_sections.specs.Pages.{near_at, near_on, page_at}
use Rattle.fol_sections.proofs.PageStretches.{filter_stretch, near_blank, near_nowhere, near_there}
use Rattle.fol_sections.proofs.stretches.split_stretch.Goals as goal

pub returns-in-Some-clause-living : goal.returns-in-Some-clause-living
unfolding page_at
returns-in-Some-clause-living c =
    let there = sym (ap option_copied (sym c.in-Some.is) ∙ rw c.page_of.ensures at c.get.ensures.value) in
    c.split_on.ensures.living ∙ ap (λ xs. c.args.living.now.items ++ xs) (filter_stretch (nat_lt 0) (near_on c.in-Some.page.now) (near_at c.args.pages.now.entries) c.args.first c.args.part.now c.requires.page
    (λ q on. near_there c.args.pages.now.entries c.args.first q on c.in-Some.page.now there))

pub returns-in-Some-clause-dead : goal.returns-in-Some-clause-dead
unfolding page_at
returns-in-Some-clause-dead c =
    let there = sym (ap option_copied (sym c.in-Some.is) ∙ rw c.page_of.ensures at c.get.ensures.value) in
    c.split_on.ensures.dead ∙ ap (λ xs. c.args.dead.now.items ++ xs) (filter_stretch (λ n. nat_eq n 0) (near_on c.in-Some.page.now) (near_at c.args.pages.now.entries) c.args.first c.args.part.now c.requires.page
    (λ q on. near_there c.args.pages.now.entries c.args.first q on c.in-Some.page.now there))

pub returns-in-None-clause-living : goal.returns-in-None-clause-living
unfolding page_at
returns-in-None-clause-living c =
    let none = sym (ap option_copied (sym c.in-None.is) ∙ rw c.page_of.ensures at c.get.ensures.value) in
    c.split_on-in-None.ensures.living ∙ ap (λ xs. c.args.living.now.items ++ xs) (filter_stretch (nat_lt 0) (near_on c.empty_page.result) (near_at c.args.pages.now.entries) c.args.first c.args.part.now c.requires.page
    (λ q on. near_nowhere c.args.pages.now.entries c.args.first q on none ∙ sym (near_blank c.empty_page.result q (c.empty_page.ensures q))))

pub returns-in-None-clause-dead : goal.returns-in-None-clause-dead
unfolding page_at
returns-in-None-clause-dead c =
    let none = sym (ap option_copied (sym c.in-None.is) ∙ rw c.page_of.ensures at c.get.ensures.value) in
    c.split_on-in-None.ensures.dead ∙ ap (λ xs. c.args.dead.now.items ++ xs) (filter_stretch (λ n. nat_eq n 0) (near_on c.empty_page.result) (near_at c.args.pages.now.entries) c.args.first c.args.part.now c.requires.page
    (λ q on. near_nowhere c.args.pages.now.entries c.args.first q on none ∙ sym (near_blank c.empty_page.result q (c.empty_page.ensures q))))
