use Rattle.std.proofs.Common.{not, sym, ◌∙◌, ap}
use Rattle.std.specs.Prelude.{is_some, pos, ◌+ℤ◌}
use Rattle.std.specs.Option.{option_and_then, option_copied}
use Rattle.fol_pages.proofs.PageRuns.{run_page}
use Rattle.fol_sections.specs.Pages.{counts_at, counts_on, is_here, page_at}
use Rattle.fol_sections.specs.Rows.{section_at}
use Rattle.fol_sections.proofs.PageRuns.{count_like, count_whole}
use Rattle.fol_sections.proofs.missing.count_run.Goals as goal

pub returns-in-Some-clause-count : goal.returns-in-Some-clause-count
unfolding counts_at is_here page_at
returns-in-Some-clause-count c =
    let value = rw c.page_of.ensures at c.get.ensures.value in
    let there = ap option_copied (sym c.in-Some.is) ∙ value in
    c.count_on.ensures.count ∙ count_like (λ q. not (is_some (counts_on c.in-Some.page.now q))) (λ q. not (is_here c.args.pages.now.entries q)) c.args.s.x c.args.s.z c.args.len (λ i l.
    let e = run_page c.args.s c.args.len c.requires i l in
    rw e (ap (λ o. not (is_some (option_and_then (λ p. counts_on p (section_at (c.args.s.x +ℤ pos i) c.args.s.z)) o))) there))

pub returns-in-None-clause-count : goal.returns-in-None-clause-count
unfolding counts_at is_here page_at
returns-in-None-clause-count c =
    let value = rw c.page_of.ensures at c.get.ensures.value in
    let none = ap option_copied (sym c.in-None.is) ∙ value in
    sym (count_whole (λ q. not (is_here c.args.pages.now.entries q)) c.args.s.x c.args.s.z c.args.len (λ i l.
    let place = section_at (c.args.s.x +ℤ pos i) c.args.s.z in
    let e = run_page c.args.s c.args.len c.requires i l in
    rw e (sym (ap (λ o. not (is_some (option_and_then (λ p. counts_on p place) o))) none))))
