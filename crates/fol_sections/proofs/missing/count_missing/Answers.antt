use Rattle.std.proofs.Common.{sym, ◌∙◌, ap, arith, not, length}
use Rattle.std.specs.List.{count_by}
use Rattle.std.proofs.lemmas.List.Sums.{length-filter}
use Rattle.fol_model.specs.Universe.{square}
use Rattle.fol_sections.specs.Pages.{is_here}
use Rattle.fol_sections.proofs.AddTable.{none_missing}
use Rattle.fol_sections.proofs.Lengths.{length-square}
use Rattle.fol_sections.proofs.SquareWalks.{run_shorter}
use Rattle.fol_sections.proofs.missing.count_missing.Goals as goal

pub returns-then-loaded-gt0-clause-count : goal.returns-then-loaded-gt0-clause-count
returns-then-loaded-gt0-clause-count c =
    let none = none_missing c.args.pages.now.entries c.args.s c.args.radius (c.requires.around (omega (arith, c.loaded.ensures, c.if-loaded-gt0.true))) in
    sym (sym (length-filter (λ q. not (is_here c.args.pages.now.entries q)) (square c.args.s c.args.radius)) ∙ ap length none)

pub loop-first-init : goal.loop-first-init
loop-first-init c = record {
  count = omega (arith, ap (count_by (λ q. not (is_here c.args.pages.now.entries q))) c.new-runs.ensures);
  few = omega (arith, ap length c.new-runs.ensures, length-square c.args.s c.args.radius c.requires.few);
}

pub loop-first-smaller : goal.loop-first-smaller
loop-first-smaller c = omega (arith, run_shorter c.in-Some.first.x c.in-Some.first.z c.in-Some.len _ _ c.in-Some.ensures.run, c.in-Some.ensures.some)
