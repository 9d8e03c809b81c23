use Rattle.std.proofs.Common.{sym, ◌∙◌, ap, ◌++◌, get_or}
use Rattle.std.specs.Option.{option_copied}
use Rattle.fol_sections.specs.Kept.{held_chunks}
use Rattle.fol_sections.specs.Pages.{page_at}
use Rattle.fol_sections.proofs.HeldChunks.{flat_map_none, listed_none}
use Rattle.fol_sections.proofs.PageStretches.{chunks_nowhere, chunks_there}
use Rattle.fol_sections.proofs.Rows.{append-none}
use Rattle.fol_sections.proofs.listings.list_stretch.Goals as goal

pub list_on-requires-clause-known : goal.list_on-requires-clause-known
unfolding page_at
list_on-requires-clause-known c = λ k d l.
    let there = sym (ap option_copied (sym c.in-Some.is) ∙ rw c.page_of.ensures at c.get.ensures.value) in
    let s = get_or c.args.part.now k d in
    let same = chunks_there c.args.pages.now.entries c.args.first s (c.requires.page k d l) c.in-Some.page.now there in
    let known = c.requires.known s in
    record { count = known.count ∙ same; near = λ h. known.near (rw same h) }

pub returns-in-None-clause-listed : goal.returns-in-None-clause-listed
unfolding page_at
returns-in-None-clause-listed c =
    let none = sym (ap option_copied (sym c.in-None.is) ∙ rw c.page_of.ensures at c.get.ensures.value) in
    let listed = held_chunks c.args.grid.now c.args.holds.now.entries in
    let nothing = flat_map_none listed c.args.part.now (λ k d l.
    let s = get_or c.args.part.now k d in
    listed_none c.args.grid.now c.args.holds.now.entries _ s (c.requires.known s) (chunks_nowhere c.args.pages.now.entries c.args.first s (c.requires.page k d l) none)) in
    sym (ap (λ xs. c.args.out.now.items ++ xs) nothing ∙ append-none c.args.out.now.items)
