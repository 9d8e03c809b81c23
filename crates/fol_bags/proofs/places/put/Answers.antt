use Rattle.std.proofs.lemmas.Int.{to_z-of_z}
use mir.Val.{SFits}
use mir.Syntax.{w32}
use Rattle.fol_bags.specs.Places.{known_place}
use Rattle.fol_bags.proofs.places.put.Goals as goal

pub returns-in-Ok-clause-ok : goal.returns-in-Ok-clause-ok
unfolding known_place
returns-in-Ok-clause-ok c = λ a b.
    let fx : SFits w32 c.args.x = c.ranges.x in
    let fz : SFits w32 c.args.z = c.ranges.z in
    let updates = simp to_z-of_z at c.in-Ok.ensures.updates in
    updates.0 (a, b)

pub returns-in-Err-clause-unknown : goal.returns-in-Err-clause-unknown
unfolding known_place
returns-in-Err-clause-unknown c =
    let fx : SFits w32 c.args.x = c.ranges.x in
    let fz : SFits w32 c.args.z = c.ranges.z in
    simp to_z-of_z at c.in-Err.ensures.absent
