use Rattle.std.proofs.lemmas.Int.{to_z-of_z}
use mir.Val.{SFits}
use mir.Syntax.{w32}
use Rattle.fol_sections.specs.Places.{number_at, is_same}
use Rattle.fol_sections.proofs.places.take_out.Goals as goal

pub returns-clause-out : goal.returns-clause-out
unfolding number_at is_same
returns-clause-out c = λ a b.
    let fx : SFits w32 c.args.x = c.ranges.x in
    let fz : SFits w32 c.args.z = c.ranges.z in
    let updates = simp to_z-of_z at c.remove.ensures.updates in
    updates.0 (a, b)

pub returns-clause-len : goal.returns-clause-len
unfolding number_at
returns-clause-len c =
    let fx : SFits w32 c.args.x = c.ranges.x in
    let fz : SFits w32 c.args.z = c.ranges.z in
    let value = simp to_z-of_z at c.remove.ensures.value in
    rw (← value) c.remove.ensures.len
