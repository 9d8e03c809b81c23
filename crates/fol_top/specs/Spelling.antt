-- How the reading of the two texts can end the work.
use Rattle.std.specs.Prelude.{ℕ, ◌≡◌, List, Some}
use Rattle.fol_model.specs.declared.openings.Opening.{Opening}
use Rattle.fol_model.specs.declared.words.TextKind.TheVariants as kinds
use Rattle.fol_model.specs.TextCauses.{first_bad}
use Rattle.fol_model.specs.Texts.{IsWorldText, script_kind}
use Rattle.fol_top.specs.declared.ending.Ending.{Ending}
use Rattle.fol_top.specs.declared.ending.Ending.TheVariants.{World, Script, NoMemory}

-- of the bytes of a world and of a script: the first bad line, of the script only where the world is that of an opening
abbrev pub TextsEnd : List ℕ → List ℕ → Ending → Type 0
TextsEnd world script (World line cause) = first_bad kinds.World world ≡ Some (line, cause)
TextsEnd world script (Script line cause) = (o : Opening) × IsWorldText world o × (first_bad (script_kind o.version) script ≡ Some (line, cause))
TextsEnd world script NoMemory = Unit {0}
TextsEnd world script _ = ⊥
