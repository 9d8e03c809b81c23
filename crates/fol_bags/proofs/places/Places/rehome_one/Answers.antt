use Rattle.std.proofs.Common.{rules}
use Rattle.std.proofs.lemmas.Int.{to_z-of_z}
use mir.Val.{SFits}
use mir.Syntax.{w32}
use Rattle.fol_bags.specs.Labels.{numbered}
use Rattle.fol_bags.proofs.PlaceSteps.{renamed_places, owned_renamed}
use Rattle.fol_bags.proofs.places.Places.rehome_one.Goals as goal

pub returns : goal.returns
returns c =
    let fx : SFits w32 c.args.c.x = search rules in
    let fz : SFits w32 c.args.c.z = search rules in
    rw (← c.self.view_is) (owned_renamed (numbered c.self.inside.labels) c.self.inside.rows.entries c.rename.new.rows.entries c.args.c c.args.from c.args.to c.label-old.result c.label-new.result
    c.label-old.ensures.its c.label-old.ensures.alone c.label-new.ensures.its
    (renamed_places c.self.inside.rows.entries c.rename.new.rows.entries c.args.c c.label-old.result c.label-new.result (simp to_z-of_z at c.rename.ensures)))
