use Rattle.std.proofs.lemmas.Int.{to_z-of_z}
use Rattle.std.proofs.lemmas.Result.{IfOk-at_ok}
use mir.Val.{SFits}
use mir.Syntax.{w32}
use Rattle.fol_sections.specs.Places.{number_at, is_same}
use Rattle.fol_sections.proofs.Results.{ok_value}
use Rattle.fol_sections.proofs.places.put.Goals as goal

pub returns-clause-put : goal.returns-clause-put
unfolding number_at is_same
returns-clause-put c = λ a b.
    let fx : SFits w32 c.args.x = c.ranges.x in
    let fz : SFits w32 c.args.z = c.ranges.z in
    let r = ok_value c.insert.result (c.insert.ensures.succeeds c.requires.room) in
    let updates = simp to_z-of_z at (IfOk-at_ok _ r.1 c.insert.ensures.updates) in
    updates.0 (a, b)

pub returns-clause-len : goal.returns-clause-len
unfolding number_at
returns-clause-len c =
    let fx : SFits w32 c.args.x = c.ranges.x in
    let fz : SFits w32 c.args.z = c.ranges.z in
    let r = ok_value c.insert.result (c.insert.ensures.succeeds c.requires.room) in
    let old = simp to_z-of_z at (IfOk-at_ok _ r.1 c.insert.ensures.old) in
    rw (← old) (IfOk-at_ok _ r.1 c.insert.ensures.len)
