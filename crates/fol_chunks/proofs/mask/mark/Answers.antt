use Rattle.std.proofs.Common.{◌<◌, length, rules, w32}
use Rattle.std.specs.Prelude.{FitsSigned}
use Rattle.std.proofs.lemmas.Int.{to_z-of_z}
use Rattle.fol_chunks.proofs.Masks.{one_marked_at}
use Rattle.fol_chunks.proofs.mask.mark.Goals as goal

pub returns-in-Some-Some : goal.returns-in-Some-Some
returns-in-Some-Some c = λ h.
    let cx : FitsSigned w32 c.args.c.x = search rules in
    let cz : FitsSigned w32 c.args.c.z = search rules in
    let x : FitsSigned w32 c.args.corner.x = search rules in
    let z : FitsSigned w32 c.args.corner.z = search rules in
    let near_x = rw (to_z-of_z w32 c.args.corner.x x, to_z-of_z w32 c.args.c.x cx) at c.in-Some-Some.ensures.near in
    let near_z = rw (to_z-of_z w32 c.args.corner.z z, to_z-of_z w32 c.args.c.z cz) at c.in-Some-Some.ensures'.near in
    let column = rw (to_z-of_z w32 c.args.corner.x x, to_z-of_z w32 c.args.c.x cx) at c.in-Some-Some.ensures.offset in
    let row = rw (to_z-of_z w32 c.args.corner.z z, to_z-of_z w32 c.args.c.z cz) at c.in-Some-Some.ensures'.offset in
    let below : c.in-Some-Some.row < length c.args.rows.now = search rules in
    one_marked_at c.args.corner c.args.c c.args.rows.now c.in-Some-Some.row c.in-Some-Some.column near_x near_z below row column
