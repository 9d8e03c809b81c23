use Rattle.std.proofs.Common.{◌≡◌, sym, ◌∙◌, ap, rules}
use Rattle.std.specs.Prelude.{is_some, nat_eq}
use Rattle.std.specs.Option.{option_copied_mut}
use Rattle.fol_sections.specs.Pages.{near_at, near_on, page_at}
use Rattle.fol_sections.specs.Places.{is_same}
use Rattle.fol_sections.proofs.DropSteps.{all_dead, count_stretch, out_of_none, out_of_page}
use Rattle.fol_sections.proofs.PageStretches.{near_there}
use Rattle.fol_sections.proofs.drops.drop_stretch.Goals as goal

pub returns-in-Some-clause-dead : goal.returns-in-Some-clause-dead
unfolding page_at
returns-in-Some-clause-dead c =
    let was = sym (ap option_copied_mut (sym c.in-Some.is) ∙ rw c.page_of.ensures at c.get_mut.ensures.value) in
    c.clear_on.ensures.dead ∙ count_stretch (λ n. nat_eq n 0) (near_on c.in-Some.page.now) (near_at c.args.pages.now.entries) c.args.first c.args.part.now c.requires.page
    (λ q on. near_there c.args.pages.now.entries c.args.first q on c.in-Some.page.now was)

pub returns-in-Some-clause-out : goal.returns-in-Some-clause-out
unfolding page_at is_same
returns-in-Some-clause-out c =
    let was = sym (ap option_copied_mut (sym c.in-Some.is) ∙ rw c.page_of.ensures at c.get_mut.ensures.value) in
    let w = c.get_mut.follows.holds c.clear_on.new.page in
    let updates = rw c.page_of.ensures at (w.updates (ap is_some (sym c.get_mut.ensures.value ∙ ap option_copied_mut c.in-Some.is))) in
    out_of_page c.args.pages.now.entries _ c.args.first c.in-Some.page.now c.clear_on.new.page was updates c.args.part.now c.requires.page c.clear_on.ensures.out

pub returns-in-None-clause-dead : goal.returns-in-None-clause-dead
unfolding page_at
returns-in-None-clause-dead c =
    let none = sym (ap option_copied_mut (sym c.in-None.is) ∙ rw c.page_of.ensures at c.get_mut.ensures.value) in
    all_dead c.args.pages.now.entries c.args.first c.args.part.now c.requires.page none

pub returns-in-None-clause-out : goal.returns-in-None-clause-out
unfolding page_at
returns-in-None-clause-out c =
    let none = sym (ap option_copied_mut (sym c.in-None.is) ∙ rw c.page_of.ensures at c.get_mut.ensures.value) in
    let same : c.get_mut.follows.lender-at-none.entries ≡ c.args.pages.now.entries = search rules in
    rw same (out_of_none c.args.pages.now.entries c.args.first c.args.part.now c.requires.page none)
