use Rattle.std.proofs.Common.{rules, w32}
use Rattle.std.specs.Prelude.{FitsSigned}
use Rattle.std.proofs.lemmas.Int.{to_z-of_z}
use Rattle.fol_model.specs.FlatTick.{ahead}
use Rattle.fol_chunks.specs.Contents.{is_recorded}
use Rattle.fol_chunks.proofs.Movement.{step_stays, misfit_stays}
use Rattle.fol_chunks.proofs.steps.walk.Goals as goal

pub returns-in_default : goal.returns-in_default
returns-in_default g c =
    let z : FitsSigned w32 c.args.entity.at.z = search rules in
    let vz : FitsSigned w32 c.args.entity.vz = search rules in
    let misfit = rw (c.in_default.is-1, to_z-of_z w32 c.args.entity.at.z z, to_z-of_z w32 c.args.entity.vz vz) at c.checked_add-2.ensures in
    step_stays (is_recorded (g.L.Lookup.listed c.args.recorded.now)) c.args.entity (misfit_stays (g.L.Lookup.listed c.args.recorded.now) (ahead c.args.entity.vx c.args.entity.vz c.args.entity.at) c.requires.places (λ f. misfit f.1))

pub returns-in_default-2 : goal.returns-in_default-2
returns-in_default-2 g c =
    let x : FitsSigned w32 c.args.entity.at.x = search rules in
    let vx : FitsSigned w32 c.args.entity.vx = search rules in
    let misfit = rw (c.in_default.is-0, to_z-of_z w32 c.args.entity.at.x x, to_z-of_z w32 c.args.entity.vx vx) at c.checked_add.ensures in
    step_stays (is_recorded (g.L.Lookup.listed c.args.recorded.now)) c.args.entity (misfit_stays (g.L.Lookup.listed c.args.recorded.now) (ahead c.args.entity.vx c.args.entity.vz c.args.entity.at) c.requires.places (λ f. misfit f.0))
