use Rattle.std.proofs.Common.{rules}
use Rattle.std.proofs.lemmas.Int.{to_z-of_z}
use mir.Val.{SFits}
use mir.Syntax.{w32}
use Rattle.fol_sections.proofs.NumberSteps.{count-put}
use Rattle.fol_sections.proofs.sections.hold_first.Goals as goal

pub returns-clause-counts : goal.returns-clause-counts
returns-clause-counts c = λ q.
    let fx : SFits w32 c.args.c.x = search rules in
    let fz : SFits w32 c.args.c.z = search rules in
    count-put _ _ c.args.c 1 (simp to_z-of_z at c.put.ensures.put) q
