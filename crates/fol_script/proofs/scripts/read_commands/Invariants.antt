use Rattle.std.proofs.Common.{◌≡◌, ◌+◌, ◌≤◌, length, map}
use Rattle.fol_model.specs.Texts.{command_row}
use Rattle.fol_model.specs.TextCauses.{row_of, bad_from, first_bad}
use Rattle.fol_model.specs.TextLines.{lines, kept}
use Rattle.fol_script.specs.ScriptBefore.{Stands}
use Rattle.fol_script.specs.ReadText.{all_rows}
use Rattle.fol_script.proofs.scripts.read_commands.Given as goal

abbrev pub invariant-loop-rest : goal.invariant-loop-rest
invariant-loop-rest l = record {
  few : l.line + length l.rest ≤ length l.bytes + 1;
  stands : Stands (map command_row l.commands.items) l.before;
  bad : bad_from l.kind (map command_row l.commands.items) l.line (lines l.rest) ≡ first_bad l.kind l.bytes;
  rows : all_rows l.kind (map command_row l.commands.items) (lines l.rest) ≡ map (row_of l.kind) (kept (lines l.bytes));
}

abbrev pub decreases-loop-rest : goal.decreases-loop-rest
decreases-loop-rest l = length l.rest
