use Rattle.std.proofs.Common.{◌≡◌, ◌+◌, ◌≤◌, length, List, map}
use Rattle.fol_model.specs.declared.words.TextKind.TheVariants as kinds
use Rattle.fol_model.specs.TextCauses.{Row, row_of, bad_from, first_bad}
use Rattle.fol_model.specs.TextLines.{lines, kept}
use Rattle.fol_script.specs.WorldBefore.{Stands}
use Rattle.fol_script.specs.ReadText.{all_rows}
use Rattle.fol_script.proofs.worlds.read_lines.Given as goal

abbrev pub invariant-loop-rest : goal.invariant-loop-rest
invariant-loop-rest l = record {
  few : l.line + length l.rest ≤ length l.bytes + 1;
  so_far : (rows : List Row) × Stands rows l.before × (bad_from kinds.World rows l.line (lines l.rest) ≡ first_bad kinds.World l.bytes) × (all_rows kinds.World rows (lines l.rest) ≡ map (row_of kinds.World) (kept (lines l.bytes)));
}

abbrev pub decreases-loop-rest : goal.decreases-loop-rest
decreases-loop-rest l = length l.rest
