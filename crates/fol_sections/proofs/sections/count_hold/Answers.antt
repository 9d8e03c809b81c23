use Rattle.std.proofs.Common.{rules}
use Rattle.std.proofs.lemmas.Int.{to_z-of_z}
use mir.Val.{SFits}
use mir.Syntax.{w32}
use Rattle.fol_sections.specs.Places.{count_at}
use Rattle.fol_sections.proofs.NumberSteps.{count-put}
use Rattle.fol_sections.proofs.sections.count_hold.Goals as goal

pub raise-requires : goal.raise-requires
unfolding count_at
raise-requires c =
    let fx : SFits w32 c.args.c.x = search rules in
    let fz : SFits w32 c.args.c.z = search rules in
    record { room = c.requires.room; few = rw (to_z-of_z w32 c.args.c.x fx, to_z-of_z w32 c.args.c.z fz) c.requires.few }

pub returns-clause-before : goal.returns-clause-before
unfolding count_at
returns-clause-before c =
    let fx : SFits w32 c.args.c.x = search rules in
    let fz : SFits w32 c.args.c.z = search rules in
    simp to_z-of_z at c.raise.ensures.before

pub returns-clause-counts : goal.returns-clause-counts
unfolding count_at
returns-clause-counts c = λ q.
    let fx : SFits w32 c.args.c.x = search rules in
    let fz : SFits w32 c.args.c.z = search rules in
    count-put _ _ c.args.c _ (simp to_z-of_z at c.raise.ensures.put) q
