use Rattle.std.proofs.Common.{rules}
use Rattle.std.proofs.lemmas.Int.{to_z-of_z}
use mir.Val.{SFits}
use mir.Syntax.{w32}
use Rattle.fol_sections.specs.Places.{count_at}
use Rattle.fol_sections.proofs.NumberSteps.{count-put}
use Rattle.fol_sections.proofs.sections.hold_again.Goals as goal

pub raise_again-requires : goal.raise_again-requires
unfolding count_at
raise_again-requires c =
    let fx : SFits w32 c.args.c.x = search rules in
    let fz : SFits w32 c.args.c.z = search rules in
    rw (to_z-of_z w32 c.args.c.x fx, to_z-of_z w32 c.args.c.z fz) c.requires

pub returns-clause-again : goal.returns-clause-again
unfolding count_at
returns-clause-again c =
    let fx : SFits w32 c.args.c.x = search rules in
    let fz : SFits w32 c.args.c.z = search rules in
    simp to_z-of_z at c.raise_again.ensures.some

pub returns-clause-counts : goal.returns-clause-counts
unfolding count_at
returns-clause-counts c = λ yes q.
    let fx : SFits w32 c.args.c.x = search rules in
    let fz : SFits w32 c.args.c.z = search rules in
    count-put _ _ c.args.c _ (simp to_z-of_z at (c.raise_again.ensures.more yes)) q
