use Rattle.std.proofs.Common.{sym, ◌∙◌, ap, rules}
use Rattle.std.specs.Option.{unwrap_or}
use Rattle.std.proofs.lemmas.Int.{to_z-of_z}
use mir.Val.{SFits}
use mir.Syntax.{w32}
use Rattle.fol_sections.specs.Table.{holds_of}
use Rattle.fol_sections.specs.Places.{count_at}
use Rattle.fol_sections.proofs.Views.{count_in-held}
use Rattle.fol_sections.proofs.sections.Sections.holds.Goals as goal

pub returns : goal.returns
unfolding holds_of count_at
returns c =
    let fx : SFits w32 c.args.c.x = search rules in
    let fz : SFits w32 c.args.c.z = search rules in
    rw (← c.self.view_is) (c.unwrap_or.ensures ∙ ap (λ o. unwrap_or o 0) (simp to_z-of_z at c.number.ensures) ∙ sym (count_in-held c.self.inside.holds.entries c.args.c))
