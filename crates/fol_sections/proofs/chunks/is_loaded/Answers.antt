use Rattle.std.proofs.Common.{◌∙◌, ap, rules}
use Rattle.std.specs.Prelude.{nat_lt}
use Rattle.std.specs.Option.{unwrap_or}
use Rattle.std.proofs.lemmas.Int.{to_z-of_z}
use mir.Val.{SFits}
use mir.Syntax.{w32}
use Rattle.fol_sections.specs.Places.{count_at}
use Rattle.fol_sections.proofs.chunks.is_loaded.Goals as goal

pub returns : goal.returns
unfolding count_at
returns c =
    let fx : SFits w32 c.args.c.x = search rules in
    let fz : SFits w32 c.args.c.z = search rules in
    ap (nat_lt 0) (c.unwrap_or.ensures ∙ ap (λ o. unwrap_or o 0) (simp to_z-of_z at c.number.ensures))
