use Rattle.std.proofs.Common.{◌∙◌, rules, w32, pos}
use Rattle.std.specs.Prelude.{FitsSigned}
use Rattle.std.proofs.lemmas.Int.{to_z-of_z}
use Rattle.fol_model.specs.Geometry.{chunk_of as chunk_around}
use Rattle.fol_chunks.proofs.Areas.{in_area}
use Rattle.fol_chunks.proofs.area.Area.of.Goals as goal

pub returns : goal.returns
returns c =
    let first = c.in_ok-first.field-0.first in
    let last = c.in_ok-first.field-0.last in
    let first_x : FitsSigned w32 first.x = search rules in
    let last_x : FitsSigned w32 last.x = search rules in
    let first_z : FitsSigned w32 first.z = search rules in
    let last_z : FitsSigned w32 last.z = search rules in
    let west : FitsSigned w32 c.in_ok-first_block.field-0 = search rules in
    let east : FitsSigned w32 c.in_ok-last_block.field-0 = search rules in
    let north : FitsSigned w32 c.in_ok-first_block-2.field-0 = search rules in
    let south : FitsSigned w32 c.in_ok-last_block-2.field-0 = search rules in
    let is_west = rw (to_z-of_z w32 first.x first_x) at c.in_ok-first_block.ensures in
    let is_east = rw (to_z-of_z w32 last.x last_x) at c.in_ok-last_block.ensures in
    let is_north = rw (to_z-of_z w32 first.z first_z) at c.in_ok-first_block-2.ensures in
    let is_south = rw (to_z-of_z w32 last.z last_z) at c.in_ok-last_block-2.ensures in
    λ x z.
    rw (to_z-of_z w32 c.in_ok-first_block.field-0 west, to_z-of_z w32 c.in_ok-last_block.field-0 east, to_z-of_z w32 c.in_ok-first_block-2.field-0 north, to_z-of_z w32 c.in_ok-last_block-2.field-0 south, is_west, is_east, is_north, is_south)
    (c.in_ok-first.ensures (chunk_around (record { x = x; y = pos 0; z = z })) ∙ in_area first last x z)
