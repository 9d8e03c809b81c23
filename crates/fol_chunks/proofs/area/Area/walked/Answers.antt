use Rattle.std.proofs.Common.{◌∙◌, sym, arith, rules, w32, to_z, of_z}
use Rattle.std.specs.Prelude.{FitsSigned}
use Rattle.std.proofs.lemmas.Bool.{and_parts}
use Rattle.std.proofs.lemmas.Int.{to_z-of_z}
use Rattle.fol_chunks.specs.Areas.{is_from_to}
use Rattle.fol_chunks.proofs.Strides.{fits_between, stays_outside, walks_both}
use Rattle.fol_chunks.proofs.area.Area.walked.Goals as goal

pub returns-then-not-has : goal.returns-then-not-has
returns-then-not-has c =
    let x : FitsSigned w32 c.args.entity.at.x = search rules in
    let z : FitsSigned w32 c.args.entity.at.z = search rules in
    let here = rw (to_z-of_z w32 c.args.entity.at.x x, to_z-of_z w32 c.args.entity.at.z z) at c.has.ensures in
    stays_outside c.args.self.now c.args.entity c.args.steps (sym here ∙ c.if-not-has.true)

pub reach-steps-requires : goal.reach-steps-requires
reach-steps-requires c =
    let west : FitsSigned w32 c.args.self.now.west = search rules in
    let east : FitsSigned w32 c.args.self.now.east = search rules in
    let parts = and_parts (is_from_to c.args.self.now.west c.args.self.now.east (to_z w32 (of_z w32 c.args.entity.at.x))) (is_from_to c.args.self.now.north c.args.self.now.south (to_z w32 (of_z w32 c.args.entity.at.z))) (sym c.has.ensures ∙ c.if-not-has.false) in
    rw (to_z-of_z w32 c.args.self.now.west west, to_z-of_z w32 c.args.self.now.east east) parts.0

pub reach-steps-requires-2 : goal.reach-steps-requires-2
reach-steps-requires-2 c =
    let north : FitsSigned w32 c.args.self.now.north = search rules in
    let south : FitsSigned w32 c.args.self.now.south = search rules in
    let parts = and_parts (is_from_to c.args.self.now.west c.args.self.now.east (to_z w32 (of_z w32 c.args.entity.at.x))) (is_from_to c.args.self.now.north c.args.self.now.south (to_z w32 (of_z w32 c.args.entity.at.z))) (sym c.has.ensures ∙ c.if-not-has.false) in
    rw (to_z-of_z w32 c.args.self.now.north north, to_z-of_z w32 c.args.self.now.south south) parts.1

pub after-requires : goal.after-requires
after-requires c =
    let west : FitsSigned w32 c.args.self.now.west = search rules in
    let east : FitsSigned w32 c.args.self.now.east = search rules in
    let inside = rw (to_z-of_z w32 c.args.self.now.west west, to_z-of_z w32 c.args.self.now.east east) at c.reach-steps.ensures.inside in
    fits_between c.args.self.now.west c.args.self.now.east _ west east (inside c.reach-steps-2.result c.reach-steps-2.ensures.bound)

pub after-requires-2 : goal.after-requires-2
after-requires-2 c =
    let north : FitsSigned w32 c.args.self.now.north = search rules in
    let south : FitsSigned w32 c.args.self.now.south = search rules in
    let inside = rw (to_z-of_z w32 c.args.self.now.north north, to_z-of_z w32 c.args.self.now.south south) at c.reach-steps-2.ensures.inside in
    fits_between c.args.self.now.north c.args.self.now.south _ north south (inside c.reach-steps-2.result (omega arith))

pub returns : goal.returns
returns c =
    let x : FitsSigned w32 c.args.entity.at.x = search rules in
    let y : FitsSigned w32 c.args.entity.at.y = search rules in
    let z : FitsSigned w32 c.args.entity.at.z = search rules in
    let vx : FitsSigned w32 c.args.entity.vx = search rules in
    let vz : FitsSigned w32 c.args.entity.vz = search rules in
    let west : FitsSigned w32 c.args.self.now.west = search rules in
    let east : FitsSigned w32 c.args.self.now.east = search rules in
    let north : FitsSigned w32 c.args.self.now.north = search rules in
    let south : FitsSigned w32 c.args.self.now.south = search rules in
    let to_x : FitsSigned w32 c.after.result = search rules in
    let to_z : FitsSigned w32 c.after-2.result = search rules in
    let is_x = rw (to_z-of_z w32 c.args.entity.at.x x, to_z-of_z w32 c.args.entity.vx vx) at c.after.ensures in
    let is_z = rw (to_z-of_z w32 c.args.entity.at.z z, to_z-of_z w32 c.args.entity.vz vz) at c.after-2.ensures in
    let columns = rw (to_z-of_z w32 c.args.self.now.west west, to_z-of_z w32 c.args.self.now.east east, to_z-of_z w32 c.args.entity.at.x x, to_z-of_z w32 c.args.entity.vx vx) at c.reach-steps.ensures.inside in
    let columns_end = rw (to_z-of_z w32 c.args.self.now.west west, to_z-of_z w32 c.args.self.now.east east, to_z-of_z w32 c.args.entity.at.x x, to_z-of_z w32 c.args.entity.vx vx) at c.reach-steps.ensures.end in
    let rows = rw (to_z-of_z w32 c.args.self.now.north north, to_z-of_z w32 c.args.self.now.south south, to_z-of_z w32 c.args.entity.at.z z, to_z-of_z w32 c.args.entity.vz vz) at c.reach-steps-2.ensures.inside in
    let rows_end = rw (to_z-of_z w32 c.args.self.now.north north, to_z-of_z w32 c.args.self.now.south south, to_z-of_z w32 c.args.entity.at.z z, to_z-of_z w32 c.args.entity.vz vz) at c.reach-steps-2.ensures.end in
    rw (to_z-of_z w32 c.after.result to_x, to_z-of_z w32 c.after-2.result to_z, is_x, is_z, to_z-of_z w32 c.args.entity.at.y y, to_z-of_z w32 c.args.entity.vx vx, to_z-of_z w32 c.args.entity.vz vz)
    (walks_both c.args.self.now c.args.entity c.args.steps c.reach-steps.result c.reach-steps-2.result c.reach-steps.ensures.bound c.reach-steps-2.ensures.bound columns columns_end rows rows_end)
