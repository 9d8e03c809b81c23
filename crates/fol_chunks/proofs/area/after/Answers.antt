use Rattle.std.proofs.Common.{rules, w32}
use Rattle.std.specs.Prelude.{FitsSigned}
use Rattle.std.proofs.lemmas.Int.{to_z-of_z}
use Rattle.fol_chunks.specs.Areas.{place_after}
use Rattle.fol_chunks.proofs.Strides.{far}
use Rattle.fol_chunks.proofs.area.after.Goals as goal

pub overflow_cast-result-4 : goal.overflow_cast-result-4
overflow_cast-result-4 c =
    let at : FitsSigned w32 c.args.at = search rules in
    let speed : FitsSigned w32 c.args.speed = search rules in
    rw (far c.args.at c.args.speed c.args.steps at speed (search rules) c.requires) c.requires

pub returns : goal.returns
returns c =
    let at : FitsSigned w32 c.args.at = search rules in
    let speed : FitsSigned w32 c.args.speed = search rules in
    rw (far c.args.at c.args.speed c.args.steps at speed (search rules) c.requires) (to_z-of_z w32 (place_after c.args.at c.args.speed c.args.steps) c.requires)
