use Rattle.std.proofs.Common.{◌≡◌, ◌-◌, Bool, sym, ◌∙◌, ap, arith, rules, ◌++◌}
use Rattle.std.specs.Prelude.{Option, is_some, nat_eq, pos, ◌+ℤ◌}
use Rattle.std.specs.Option.{option_copied_mut, unwrap_or}
use Rattle.fol_model.specs.declared.places.SectionPos.{SectionPos}
use Rattle.fol_sections.specs.Pages.{is_here, near_at, no_counts, page_at}
use Rattle.fol_sections.specs.declared.pages.Counts.{Counts}
use Rattle.fol_sections.specs.Places.{is_same}
use Rattle.fol_sections.specs.Rows.{row_of, section_at}
use Rattle.fol_sections.specs.declared.turns.Turn.TheVariants.{Emptied}
use Rattle.fol_sections.proofs.PageRuns.{before_filter, before_near, before_on, count_none, none_run, row_has, run_chunks, run_here, run_near, run_on, kept_on}
use Rattle.fol_sections.proofs.Rows.{append-none, filter_none}
use Rattle.fol_sections.proofs.runs.empty_run.Goals as goal

pub empty_on-requires-clause-here : goal.empty_on-requires-clause-here
unfolding page_at is_here
empty_on-requires-clause-here c = λ q some.
    let was = sym (ap option_copied_mut (sym c.in-Some.is) ∙ rw c.page_of.ensures at c.get_mut.ensures.value) in
    let on = run_on c.args.s c.args.len c.requires.run q some in
    ap is_some (sym (before_on c.args.pages.now.entries c.args.s c.in-Some.page.now (kept_on c.args.pages.now.entries c.args.s c.in-Some.page.now was) q on)) ∙ c.requires.here q some

pub empty_on-requires-clause-low : goal.empty_on-requires-clause-low
unfolding page_at
empty_on-requires-clause-low c = λ q on.
    let was = sym (ap option_copied_mut (sym c.in-Some.is) ∙ rw c.page_of.ensures at c.get_mut.ensures.value) in
    let e = before_near c.args.pages.now.entries c.args.s c.in-Some.page.now (kept_on c.args.pages.now.entries c.args.s c.in-Some.page.now was) q on in
    rw e at (c.requires.low q)

pub returns-in-Some-clause-near : goal.returns-in-Some-clause-near
unfolding page_at is_same
returns-in-Some-clause-near c =
    let was = sym (ap option_copied_mut (sym c.in-Some.is) ∙ rw c.page_of.ensures at c.get_mut.ensures.value) in
    let w = c.get_mut.follows.holds c.empty_on.new.page in
    let updates = rw c.page_of.ensures at (w.updates (ap is_some (sym c.get_mut.ensures.value ∙ ap option_copied_mut c.in-Some.is))) in
    λ q. omega (arith, run_near c.args.pages.now.entries c.args.s c.in-Some.page.now (kept_on c.args.pages.now.entries c.args.s c.in-Some.page.now was) _ c.empty_on.new.page updates c.args.len c.requires.run Emptied (λ q on. omega (arith, c.empty_on.ensures.near q on)) q)

pub returns-in-Some-clause-here : goal.returns-in-Some-clause-here
unfolding page_at is_same
returns-in-Some-clause-here c =
    let was = sym (ap option_copied_mut (sym c.in-Some.is) ∙ rw c.page_of.ensures at c.get_mut.ensures.value) in
    let w = c.get_mut.follows.holds c.empty_on.new.page in
    let updates = rw c.page_of.ensures at (w.updates (ap is_some (sym c.get_mut.ensures.value ∙ ap option_copied_mut c.in-Some.is))) in
    run_here c.args.pages.now.entries c.args.s c.in-Some.page.now (kept_on c.args.pages.now.entries c.args.s c.in-Some.page.now was) _ c.empty_on.new.page updates c.empty_on.ensures.kept.here

pub returns-in-Some-clause-chunks : goal.returns-in-Some-clause-chunks
unfolding page_at is_same
returns-in-Some-clause-chunks c =
    let was = sym (ap option_copied_mut (sym c.in-Some.is) ∙ rw c.page_of.ensures at c.get_mut.ensures.value) in
    let w = c.get_mut.follows.holds c.empty_on.new.page in
    let updates = rw c.page_of.ensures at (w.updates (ap is_some (sym c.get_mut.ensures.value ∙ ap option_copied_mut c.in-Some.is))) in
    run_chunks c.args.pages.now.entries c.args.s c.in-Some.page.now (kept_on c.args.pages.now.entries c.args.s c.in-Some.page.now was) _ c.empty_on.new.page updates c.empty_on.ensures.kept.chunks

pub returns-in-None-clause-near : goal.returns-in-None-clause-near
unfolding page_at
returns-in-None-clause-near c = λ q.
    let none = sym (ap option_copied_mut (sym c.in-None.is) ∙ rw c.page_of.ensures at c.get_mut.ensures.value) in
    let n = none_run c.args.pages.now.entries c.args.s c.args.len c.requires.run none q (c.requires.here q) in
    let same : c.get_mut.follows.lender-at-none.entries ≡ c.args.pages.now.entries = search rules in
    rw (n, same) (omega arith)

pub returns-in-Some-clause-died : goal.returns-in-Some-clause-died
unfolding page_at near_at
returns-in-Some-clause-died c =
    let was = sym (ap option_copied_mut (sym c.in-Some.is) ∙ rw c.page_of.ensures at c.get_mut.ensures.value) in
    let test : Option Counts → Bool = λ o. nat_eq ((unwrap_or o no_counts).near - 1) 0 in
    c.empty_on.ensures.died ∙ ap (λ xs. c.args.died.now.items ++ xs) (before_filter c.args.pages.now.entries c.args.s c.in-Some.page.now (kept_on c.args.pages.now.entries c.args.s c.in-Some.page.now was) test c.args.len c.requires.run)

pub returns-in-None-clause-died : goal.returns-in-None-clause-died
unfolding page_at
returns-in-None-clause-died c =
    let none = sym (ap option_copied_mut (sym c.in-None.is) ∙ rw c.page_of.ensures at c.get_mut.ensures.value) in
    let test : SectionPos → Bool = λ q. nat_eq (near_at c.args.pages.now.entries q - 1) 0 in
    let nobody = count_none test c.args.s.x c.args.s.z c.args.len (λ i l.
    let place = section_at (c.args.s.x +ℤ pos i) c.args.s.z in
    absurd (omega (arith, row_has c.args.s.x c.args.s.z c.args.len i l, none_run c.args.pages.now.entries c.args.s c.args.len c.requires.run none place (c.requires.here place)))) in
    sym (ap (λ xs. c.args.died.now.items ++ xs) (filter_none test (row_of section_at c.args.s.x c.args.s.z c.args.len) nobody) ∙ append-none c.args.died.now.items)
