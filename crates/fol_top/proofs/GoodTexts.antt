-- The text of an opening, or of the commands of a script, has no bad line.
use Rattle.std.proofs.Common.{◌≡◌, ℕ, List}
use Rattle.std.specs.Prelude.{Option, Some, None}
use Rattle.fol_model.specs.declared.causes.Cause.{Cause}
use Rattle.fol_model.specs.declared.openings.Opening.{Opening}
use Rattle.fol_model.specs.declared.scripts.Command.{Command}
use Rattle.fol_model.specs.declared.words.TextKind.TheVariants as kinds
use Rattle.fol_model.specs.TextCauses.{first_bad}
use Rattle.fol_model.specs.Texts.{IsScriptText, IsWorldText, script_kind}
use Rattle.fol_text_laws.proofs.WorldLaws.{world_has_opening}
use Rattle.fol_text_laws.proofs.ScriptLaws.{script_has_commands}

not_none_and_some : (bad : Option (ℕ × Cause)) (found : ℕ × Cause) → bad ≡ None → bad ≡ Some found → ⊥
not_none_and_some None found none some = cc
not_none_and_some (Some other) found none some = cc

pub no_bad_world : (world : List ℕ) (o : Opening) (line : ℕ) (why : Cause) → IsWorldText world o → first_bad kinds.World world ≡ Some (line, why) → ⊥
no_bad_world world o line why text bad = not_none_and_some (first_bad kinds.World world) (line, why) ((world_has_opening world).1 (o, text)) bad

pub no_bad_script : (version : ℕ) (script : List ℕ) (cs : List Command) (line : ℕ) (why : Cause) → IsScriptText version script cs
    → first_bad (script_kind version) script ≡ Some (line, why) → ⊥
no_bad_script version script cs line why text bad =
    not_none_and_some (first_bad (script_kind version) script) (line, why) ((script_has_commands version script).1 (cs, text)) bad
