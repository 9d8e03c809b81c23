-- What holds of the texts of worlds and scripts, whatever the program does.
use Rattle.std.specs.Prelude.{◌≡◌, ◌↔◌, ◌⊎◌, ℕ, Bool, true, false, List, None}
use Rattle.std.specs.List.{list_any}
use Rattle.fol_model.specs.declared.openings.Opening.{Opening}
use Rattle.fol_model.specs.declared.scripts.Command.{Command}
use Rattle.fol_model.specs.declared.scripts.Command.TheVariants as command
use Rattle.fol_model.specs.declared.words.TextKind.TheVariants as kinds
use Rattle.fol_model.specs.OpeningParts.{IsOpening}
use Rattle.fol_model.specs.IsScript.{IsScript}
use Rattle.fol_model.specs.TextCauses.{first_bad}
use Rattle.fol_model.specs.Texts.{IsWorldText, IsScriptText, script_kind}
use Rattle.fol_text_laws.specs.Printed.{world_text, script_text}

-- no line is bad exactly where the text is that of an opening
abbrev pub WorldHasOpening : Type 0
WorldHasOpening = (bytes : List ℕ) → (first_bad kinds.World bytes ≡ None) ↔ ((o : Opening) × IsWorldText bytes o)

-- no line is bad exactly where the text is that of some commands
abbrev pub ScriptHasCommands : Type 0
ScriptHasCommands = (version : ℕ) (bytes : List ℕ) → (first_bad (script_kind version) bytes ≡ None) ↔ ((cs : List Command) × IsScriptText version bytes cs)

-- a text is that of at most one opening
abbrev pub OneOpening : Type 0
OneOpening = (bytes : List ℕ) (o p : Opening) → IsWorldText bytes o → IsWorldText bytes p → o ≡ p

-- a text is that of at most one list of commands
abbrev pub OneScript : Type 0
OneScript = (version : ℕ) (bytes : List ℕ) (cs ds : List Command) → IsScriptText version bytes cs → IsScriptText version bytes ds → cs ≡ ds

-- what a text gives is within the limits
abbrev pub WorldGivesOpening : Type 0
WorldGivesOpening = (bytes : List ℕ) (o : Opening) → IsWorldText bytes o → IsOpening o

abbrev pub ScriptGivesScript : Type 0
ScriptGivesScript = (version : ℕ) (bytes : List ℕ) (cs : List Command) → IsScriptText version bytes cs → IsScript cs

-- what is printed of an opening is its text
abbrev pub WorldPrinted : Type 0
WorldPrinted = (o : Opening) → IsOpening o → IsWorldText (world_text o) o

abbrev pub is_repeat : Command → Bool
is_repeat (command.Every c delay period count a) = true
is_repeat _ = false

-- the version has the words of these commands: version 1 has no `every`
abbrev pub Speaks : ℕ → List Command → Type 0
Speaks version cs = (version ≡ 2) ⊎ (list_any is_repeat cs ≡ false)

-- what is printed of a script is its text
abbrev pub ScriptPrinted : Type 0
ScriptPrinted = (version : ℕ) (cs : List Command) → Speaks version cs → IsScript cs → IsScriptText version (script_text cs) cs
