use Rattle.std.proofs.Common.{ap, ◌∙◌, rules}
use Rattle.std.proofs.lemmas.Int.{to_z-of_z}
use mir.Val.{SFits}
use mir.Syntax.{w32}
use Rattle.fol_keyed.proofs.Answers.{on_ok, on_err}
use Rattle.fol_bags.specs.Labels.{numbered}
use Rattle.fol_bags.specs.Places.{renumbered}
use Rattle.fol_bags.proofs.PlaceSteps.{set_places, set_unknown, owned_place, owned_set}
use Rattle.fol_bags.proofs.places.Places.set.Goals as goal

pub returns-clause-ok : goal.returns-clause-ok
returns-clause-ok c =
    let fx : SFits w32 c.args.c.x = search rules in
    let fz : SFits w32 c.args.c.z = search rules in
    rw (← c.self.view_is) (on_ok c.put.result _ _ (simp to_z-of_z at c.put.ensures.ok)
    (λ h. owned_set (numbered c.self.inside.labels) c.self.inside.rows.entries c.put.new.rows.entries c.args.c c.labelled-row.result c.args.place c.labelled-row.ensures
    (set_places c.self.inside.rows.entries c.put.new.rows.entries c.args.c c.labelled-row.result h)))

pub returns-clause-unknown : goal.returns-clause-unknown
returns-clause-unknown c =
    let fx : SFits w32 c.args.c.x = search rules in
    let fz : SFits w32 c.args.c.z = search rules in
    rw (← c.self.view_is) (on_err c.put.result _ _ (simp to_z-of_z at c.put.ensures.unknown)
    (λ h. owned_place (numbered c.self.inside.labels) c.self.inside.rows.entries c.args.c ∙ ap (renumbered (numbered c.self.inside.labels)) (set_unknown c.self.inside.rows.entries c.args.c h)))
