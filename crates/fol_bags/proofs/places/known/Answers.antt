use Rattle.std.proofs.Common.{sym, ◌∙◌, ap}
use Rattle.std.specs.Option.{option_copied}
use Rattle.std.proofs.lemmas.Int.{to_z-of_z}
use mir.Val.{SFits}
use mir.Syntax.{w32}
use Rattle.fol_bags.specs.Places.{known_place}
use Rattle.fol_bags.proofs.places.known.Goals as goal

pub returns-in-Some : goal.returns-in-Some
unfolding known_place
returns-in-Some c =
    let fx : SFits w32 c.args.x = c.ranges.x in
    let fz : SFits w32 c.args.z = c.ranges.z in
    ap option_copied (sym c.in-Some.is) ∙ (simp to_z-of_z at c.get.ensures.value)

pub returns-in-None : goal.returns-in-None
unfolding known_place
returns-in-None c =
    let fx : SFits w32 c.args.x = c.ranges.x in
    let fz : SFits w32 c.args.z = c.ranges.z in
    ap option_copied (sym c.in-None.is) ∙ (simp to_z-of_z at c.get.ensures.value)
