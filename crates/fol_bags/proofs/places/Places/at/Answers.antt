use Rattle.std.proofs.Common.{Option, rules, ap, sym, ◌∙◌}
use Rattle.std.specs.Option.{unwrap_or}
use Rattle.std.proofs.lemmas.Int.{to_z-of_z}
use mir.Val.{SFits}
use mir.Syntax.{w32}
use Rattle.fol_bags.specs.declared.places.Place.{Place}
use Rattle.fol_bags.specs.Labels.{numbered}
use Rattle.fol_bags.specs.Places.{place_at, nowhere, renumbered}
use Rattle.fol_bags.proofs.PlaceSteps.{owned_place}
use Rattle.fol_bags.proofs.places.Places.at.Goals as goal

pub returns : goal.returns
unfolding place_at
returns c =
    let fx : SFits w32 c.args.c.x = search rules in
    let fz : SFits w32 c.args.c.z = search rules in
    rw (← c.self.view_is) (c.owned.ensures
    ∙ ap (renumbered (numbered c.self.inside.labels)) (c.unwrap_or-row.ensures ∙ ap (λ (o : Option Place). unwrap_or o nowhere) (simp to_z-of_z at c.known.ensures))
    ∙ sym (owned_place (numbered c.self.inside.labels) c.self.inside.rows.entries c.args.c))
