use Rattle.std.proofs.Common.{◌+◌, ◌*◌, refl, arith, not}
use Rattle.std.proofs.lemmas.List.Sums.{count_by-le-length}
use Rattle.fol_model.specs.Universe.{square}
use Rattle.fol_sections.specs.Pages.{is_here}
use Rattle.fol_sections.proofs.Lengths.{length-area}
use Rattle.fol_sections.proofs.missing.find_excess.Goals as goal

pub returns-then-present-side-clause-none : goal.returns-then-present-side-clause-none
returns-then-present-side-clause-none c =
    omega (
      arith,
      count_by-le-length (λ q. not (is_here c.args.pages.now.entries q)) (square c.args.s c.args.radius),
      length-area c.args.s c.args.radius (2 * c.args.radius + 1) refl,
      c.if-present-side.true,
    )
