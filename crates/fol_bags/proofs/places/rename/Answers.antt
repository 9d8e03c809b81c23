use Rattle.std.proofs.Common.{sym, ◌∙◌, ap, Some}
use Rattle.std.specs.Prelude.{◌&&◌, if◌then◌else◌, Option}
use Rattle.std.specs.Option.{is_some, option_map}
use Rattle.std.specs.Ordering.{int_eq}
use Rattle.std.proofs.lemmas.Int.{to_z-of_z}
use mir.Val.{SFits}
use mir.Syntax.{w32}
use Rattle.fol_bags.specs.declared.places.Place.{Place}
use Rattle.fol_bags.specs.Places.{known_place, rebagged}
use Rattle.fol_bags.proofs.PlaceSteps.{none_renamed}
use Rattle.fol_bags.proofs.places.rename.Goals as goal

pub returns-in-Some : goal.returns-in-Some
unfolding known_place
returns-in-Some c = λ a b.
    let fx : SFits w32 c.args.x = c.ranges.x in
    let fz : SFits w32 c.args.z = c.ranges.z in
    let written = simp to_z-of_z at c.get_mut.follows.holds c.rename_bag.new.place in
    let there = simp to_z-of_z at c.in-Some.ensures.value in
    (written.3 (ap is_some (sym there))).0 (a, b)
    ∙ ap (λ (o : Option Place). if (int_eq c.args.x a && int_eq c.args.z b) then o else known_place c.args.rows.now.entries a b)
    (ap (λ (p : Place). Some p) c.rename_bag.ensures ∙ ap (option_map (rebagged c.args.from c.args.to)) there)

pub returns-in-None : goal.returns-in-None
unfolding known_place
returns-in-None c = λ a b.
    let fx : SFits w32 c.args.x = c.ranges.x in
    let fz : SFits w32 c.args.z = c.ranges.z in
    let none = simp to_z-of_z at c.in-None.ensures.value in
    ap (λ m. known_place m.entries a b) c.get_mut.follows.holds-at-none
    ∙ none_renamed c.args.rows.now.entries c.args.x c.args.z c.args.from c.args.to (sym none) a b
