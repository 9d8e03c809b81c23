use Rattle.std.proofs.Common.{◌≡◌, Bool, sym, ◌∙◌, ap, arith, cond, false, not, ℕ, ◌++◌}
use Rattle.std.specs.Prelude.{Option, is_some}
use Rattle.std.specs.Option.{option_copied_mut}
use Rattle.std.proofs.lemmas.Result.{IfOk-at_ok}
use Rattle.fol_pages.proofs.PageChanges.{pages-more}
use Rattle.fol_sections.specs.Pages.{has_page, is_here, page_at, page_of}
use Rattle.fol_sections.specs.Places.{is_same}
use Rattle.fol_sections.specs.declared.pages.Counts.{Counts}
use Rattle.fol_sections.specs.declared.turns.Turn.TheVariants.{Filled}
use Rattle.fol_sections.proofs.PageRuns.{before_filter, before_near, kept_nowhere, kept_on, run_chunks, run_comes, run_near}
use Rattle.fol_sections.proofs.Results.{ok_value}
use Rattle.fol_sections.proofs.runs.fill_run.Goals as goal

pub fill_on-requires-clause-high : goal.fill_on-requires-clause-high
unfolding page_at
fill_on-requires-clause-high c =
    let was = sym (ap option_copied_mut (sym c.in-Some.is) ∙ rw c.page_of.ensures at c.get_mut.ensures.value) in
    λ q on. omega (arith, before_near c.args.pages.now.entries c.args.s c.in-Some.page.now (kept_on c.args.pages.now.entries c.args.s c.in-Some.page.now was) q on, c.requires.high q)

pub fill_on-requires-in-None-clause-high : goal.fill_on-requires-in-None-clause-high
unfolding page_at
fill_on-requires-in-None-clause-high c =
    let none = ap option_copied_mut (sym c.in-None.is) ∙ rw c.page_of.ensures at c.get_mut.ensures.value in
    λ q on. omega (arith, before_near c.args.pages.now.entries c.args.s c.empty_page-page.result (kept_nowhere c.args.pages.now.entries c.args.s c.empty_page-page.result (sym none) c.empty_page-page.ensures) q on, c.requires.high q)

pub returns-in-Some-clause-near : goal.returns-in-Some-clause-near
unfolding page_at is_same
returns-in-Some-clause-near c =
    let was = sym (ap option_copied_mut (sym c.in-Some.is) ∙ rw c.page_of.ensures at c.get_mut.ensures.value) in
    let w = c.get_mut.follows.holds c.fill_on.new.page in
    let updates = rw c.page_of.ensures at (w.updates (ap is_some (sym c.get_mut.ensures.value ∙ ap option_copied_mut c.in-Some.is))) in
    λ q. omega (arith, run_near c.args.pages.now.entries c.args.s c.in-Some.page.now (kept_on c.args.pages.now.entries c.args.s c.in-Some.page.now was) _ c.fill_on.new.page updates c.args.len c.requires.run Filled (λ q on. omega (arith, c.fill_on.ensures.near q on)) q)

pub returns-in-Some-clause-here : goal.returns-in-Some-clause-here
unfolding page_at is_same
returns-in-Some-clause-here c =
    let was = sym (ap option_copied_mut (sym c.in-Some.is) ∙ rw c.page_of.ensures at c.get_mut.ensures.value) in
    let w = c.get_mut.follows.holds c.fill_on.new.page in
    let updates = rw c.page_of.ensures at (w.updates (ap is_some (sym c.get_mut.ensures.value ∙ ap option_copied_mut c.in-Some.is))) in
    run_comes c.args.pages.now.entries c.args.s c.in-Some.page.now (kept_on c.args.pages.now.entries c.args.s c.in-Some.page.now was) _ c.fill_on.new.page updates c.args.len c.requires.run c.fill_on.ensures.here

pub returns-in-Some-clause-chunks : goal.returns-in-Some-clause-chunks
unfolding page_at is_same
returns-in-Some-clause-chunks c =
    let was = sym (ap option_copied_mut (sym c.in-Some.is) ∙ rw c.page_of.ensures at c.get_mut.ensures.value) in
    let w = c.get_mut.follows.holds c.fill_on.new.page in
    let updates = rw c.page_of.ensures at (w.updates (ap is_some (sym c.get_mut.ensures.value ∙ ap option_copied_mut c.in-Some.is))) in
    run_chunks c.args.pages.now.entries c.args.s c.in-Some.page.now (kept_on c.args.pages.now.entries c.args.s c.in-Some.page.now was) _ c.fill_on.new.page updates c.fill_on.ensures.chunks

pub returns-in-Some-clause-pages : goal.returns-in-Some-clause-pages
unfolding page_at is_same
returns-in-Some-clause-pages c =
    let w = c.get_mut.follows.holds c.fill_on.new.page in
    let updates = rw c.page_of.ensures at (w.updates (ap is_some (sym c.get_mut.ensures.value ∙ ap option_copied_mut c.in-Some.is))) in
    pages-more c.args.pages.now.entries _ (page_of c.args.s.x) c.args.s.z c.fill_on.new.page updates

pub returns-in-Some-clause-filled : goal.returns-in-Some-clause-filled
unfolding page_at is_here
returns-in-Some-clause-filled c =
    let was = sym (ap option_copied_mut (sym c.in-Some.is) ∙ rw c.page_of.ensures at c.get_mut.ensures.value) in
    let test : Option Counts → Bool = λ o. not (is_some o) in
    c.fill_on.ensures.filled ∙ ap (λ xs. c.args.filled.now.items ++ xs) (before_filter c.args.pages.now.entries c.args.s c.in-Some.page.now (kept_on c.args.pages.now.entries c.args.s c.in-Some.page.now was) test c.args.len c.requires.run)

pub returns-in-None-clause-near : goal.returns-in-None-clause-near
unfolding page_at is_same has_page
returns-in-None-clause-near c =
    let none = ap option_copied_mut (sym c.in-None.is) ∙ rw c.page_of.ensures at c.get_mut.ensures.value in
    let same = c.get_mut.follows.holds-at-none in
    let r = ok_value c.insert.result (c.insert.ensures.succeeds (rw same (c.requires.room (ap is_some (sym none))))) in
    let updates = rw (same, c.page_of-in-None.ensures) at (IfOk-at_ok _ {x = r.0} r.1 c.insert.ensures.updates) in
    λ q. omega (arith, run_near c.args.pages.now.entries c.args.s c.empty_page-page.result (kept_nowhere c.args.pages.now.entries c.args.s c.empty_page-page.result (sym none) c.empty_page-page.ensures) _ c.fill_on-in-None.new.page updates c.args.len c.requires.run Filled (λ q on. omega (arith, c.fill_on-in-None.ensures.near q on)) q)

pub returns-in-None-clause-here : goal.returns-in-None-clause-here
unfolding page_at is_same has_page
returns-in-None-clause-here c =
    let none = ap option_copied_mut (sym c.in-None.is) ∙ rw c.page_of.ensures at c.get_mut.ensures.value in
    let same = c.get_mut.follows.holds-at-none in
    let r = ok_value c.insert.result (c.insert.ensures.succeeds (rw same (c.requires.room (ap is_some (sym none))))) in
    let updates = rw (same, c.page_of-in-None.ensures) at (IfOk-at_ok _ {x = r.0} r.1 c.insert.ensures.updates) in
    run_comes c.args.pages.now.entries c.args.s c.empty_page-page.result (kept_nowhere c.args.pages.now.entries c.args.s c.empty_page-page.result (sym none) c.empty_page-page.ensures) _ c.fill_on-in-None.new.page updates c.args.len c.requires.run c.fill_on-in-None.ensures.here

pub returns-in-None-clause-chunks : goal.returns-in-None-clause-chunks
unfolding page_at is_same has_page
returns-in-None-clause-chunks c =
    let none = ap option_copied_mut (sym c.in-None.is) ∙ rw c.page_of.ensures at c.get_mut.ensures.value in
    let same = c.get_mut.follows.holds-at-none in
    let r = ok_value c.insert.result (c.insert.ensures.succeeds (rw same (c.requires.room (ap is_some (sym none))))) in
    let updates = rw (same, c.page_of-in-None.ensures) at (IfOk-at_ok _ {x = r.0} r.1 c.insert.ensures.updates) in
    run_chunks c.args.pages.now.entries c.args.s c.empty_page-page.result (kept_nowhere c.args.pages.now.entries c.args.s c.empty_page-page.result (sym none) c.empty_page-page.ensures) _ c.fill_on-in-None.new.page updates c.fill_on-in-None.ensures.chunks

pub returns-in-None-clause-pages : goal.returns-in-None-clause-pages
unfolding page_at is_same has_page
returns-in-None-clause-pages c =
    let none = ap option_copied_mut (sym c.in-None.is) ∙ rw c.page_of.ensures at c.get_mut.ensures.value in
    let same = c.get_mut.follows.holds-at-none in
    let r = ok_value c.insert.result (c.insert.ensures.succeeds (rw same (c.requires.room (ap is_some (sym none))))) in
    let updates = rw (same, c.page_of-in-None.ensures) at (IfOk-at_ok _ {x = r.0} r.1 c.insert.ensures.updates) in
    pages-more c.args.pages.now.entries _ (page_of c.args.s.x) c.args.s.z c.fill_on-in-None.new.page updates

pub returns-in-None-clause-filled : goal.returns-in-None-clause-filled
unfolding page_at is_here
returns-in-None-clause-filled c =
    let none = ap option_copied_mut (sym c.in-None.is) ∙ rw c.page_of.ensures at c.get_mut.ensures.value in
    let test : Option Counts → Bool = λ o. not (is_some o) in
    c.fill_on-in-None.ensures.filled ∙ ap (λ xs. c.args.filled.now.items ++ xs) (before_filter c.args.pages.now.entries c.args.s c.empty_page-page.result (kept_nowhere c.args.pages.now.entries c.args.s c.empty_page-page.result (sym none) c.empty_page-page.ensures) test c.args.len c.requires.run)

pub returns-in-None-clause-room : goal.returns-in-None-clause-room
unfolding page_at has_page
returns-in-None-clause-room c =
    let none = ap option_copied_mut (sym c.in-None.is) ∙ rw c.page_of.ensures at c.get_mut.ensures.value in
    let absent : has_page c.args.pages.now.entries (page_of c.args.s.x) c.args.s.z ≡ false = ap is_some (sym none) in
    let spare = rw c.get_mut.follows.holds-at-none at c.insert.ensures.spare in
    omega (arith, spare, ap (λ b. cond {A = ℕ} b 0 1) absent)
