use Rattle.std.proofs.Common.{rules}
use Rattle.std.proofs.lemmas.Int.{to_z-of_z}
use mir.Val.{SFits}
use mir.Syntax.{w32}
use Rattle.fol_model.specs.Universe.{section_cmp}
use Rattle.fol_region_tables.proofs.rows.compare.Goals as goal

pub returns : goal.returns
unfolding section_cmp
returns c =
    let fx : SFits w32 c.args.a.x = search rules in
    let fz : SFits w32 c.args.a.z = search rules in
    let gx : SFits w32 c.args.b.x = search rules in
    let gz : SFits w32 c.args.b.z = search rules in
    simp to_z-of_z at c.cmp.ensures
