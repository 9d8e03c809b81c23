-- The laws of script texts.
use Rattle.std.proofs.Common.{◌≡◌, ℕ, List, [], map, None, sym, ap, subst, ◌∙◌}
use Rattle.fol_model.specs.declared.scripts.Command.{Command}
use Rattle.fol_model.specs.TextCauses.{first_bad}
use Rattle.fol_model.specs.TextRows.{Spells}
use Rattle.fol_model.specs.Texts.{IsScriptText, command_row, script_kind}
use Rattle.fol_text_laws.specs.Laws.{ScriptHasCommands, OneScript, ScriptGivesScript, ScriptPrinted}
use Rattle.fol_text_laws.specs.Printed.{script_text}
use Rattle.fol_text_laws.proofs.Valid.{valid_is_spelled, spelled_is_valid}
use Rattle.fol_text_laws.proofs.PrintedLines.{rows_spelled}
use Rattle.fol_text_laws.specs.RowValues.{command_from}
use Rattle.fol_text_laws.proofs.Commands.{version_kind}
use Rattle.fol_text_laws.proofs.Scripts.{commands_of, commands_again, script_of, script_follows}

commands_at : (version : ℕ) (bytes : List ℕ) → first_bad (script_kind version) bytes ≡ None → (cs : List Command) × IsScriptText version bytes cs
commands_at version bytes e =
    let v = valid_is_spelled (script_kind version) bytes e in
    let c = commands_of (script_kind version) v.0 (version_kind version) v.1.follow in
    (c.commands, subst (Spells (script_kind version) bytes) (sym c.rows) v.1)

pub script_has_commands : ScriptHasCommands
script_has_commands version bytes = (λ e. commands_at version bytes e, λ s. (spelled_is_valid (script_kind version) bytes (map command_row s.0) s.1).0)

pub one_script : OneScript
one_script version bytes cs ds s t =
    let e : map command_row cs ≡ map command_row ds =
    sym (spelled_is_valid (script_kind version) bytes (map command_row cs) s).1 ∙ (spelled_is_valid (script_kind version) bytes (map command_row ds) t).1 in
    sym (commands_again (script_kind version) [] cs (version_kind version) s.follow) ∙ ap (map command_from) e ∙ commands_again (script_kind version) [] ds (version_kind version) t.follow

pub script_gives_script : ScriptGivesScript
script_gives_script version bytes cs s = script_of (script_kind version) cs (version_kind version) s.follow

pub script_printed : ScriptPrinted
unfolding script_text
script_printed version cs speaks is = rows_spelled (script_kind version) (map command_row cs) (script_follows version cs speaks is)
