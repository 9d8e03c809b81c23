use Rattle.std.proofs.Common.{◌+◌, ◌*◌, ◌∙◌, ap, refl}
use Rattle.fol_model.specs.declared.places.SectionPos.{SectionPos}
use Rattle.fol_sections.specs.SquareRuns.{rest}
use Rattle.fol_sections.proofs.SquareWalks.{come_square, to_come}
use Rattle.fol_sections.proofs.walks.SquareRuns.new.Goals as goal

pub returns : goal.returns
unfolding rest
returns c =
    ap (λ (q : SectionPos). to_come q.x q.z (2 * c.args.radius + 1) 0 0) c.corner.ensures
    ∙ come_square c.args.s c.args.radius (2 * c.args.radius + 1) refl
