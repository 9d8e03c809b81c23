use Rattle.std.proofs.Common.{◌∙◌, sym, rules, w32}
use Rattle.std.specs.Prelude.{FitsSigned}
use Rattle.std.proofs.lemmas.Int.{to_z-of_z}
use Rattle.fol_chunks.proofs.Masks.{bit_tested}
use Rattle.fol_chunks.proofs.mask.MaskLookup.holds.Goals as goal

pub returns-in-Some-Some : goal.returns-in-Some-Some
returns-in-Some-Some c =
    let cx : FitsSigned w32 c.args.c.x = search rules in
    let cz : FitsSigned w32 c.args.c.z = search rules in
    let x : FitsSigned w32 c.args.self.now.corner.x = search rules in
    let z : FitsSigned w32 c.args.self.now.corner.z = search rules in
    let near_x = rw (to_z-of_z w32 c.args.self.now.corner.x x, to_z-of_z w32 c.args.c.x cx) at c.in-Some-Some.ensures.near in
    let near_z = rw (to_z-of_z w32 c.args.self.now.corner.z z, to_z-of_z w32 c.args.c.z cz) at c.in-Some-Some.ensures'.near in
    let column = rw (to_z-of_z w32 c.args.self.now.corner.x x, to_z-of_z w32 c.args.c.x cx) at c.in-Some-Some.ensures.offset in
    let row = rw (to_z-of_z w32 c.args.self.now.corner.z z, to_z-of_z w32 c.args.c.z cz) at c.in-Some-Some.ensures'.offset in
    bit_tested c.args.self.now.corner c.args.c c.args.self.now.rows c.in-Some-Some.row c.in-Some-Some.column near_x near_z row column ∙ sym (c.args.self.now.exact c.args.c)
