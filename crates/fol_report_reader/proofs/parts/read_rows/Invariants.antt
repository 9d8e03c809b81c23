use Rattle.std.proofs.Common.{◌≡◌, ◌++◌, length}
use Rattle.std.specs.List.{AllByRecursion}
use Rattle.fol_model.specs.LineWords.{lines_of}
use Rattle.fol_report_reader.proofs.parts.read_rows.Given as goal

abbrev pub invariant-loop-told : goal.invariant-loop-told
invariant-loop-told g l = record { in_range : AllByRecursion g.R.Row.InRange l.rows; count : length l.rows ≡ l.told; text_is : l.text ≡ lines_of g.R.Row.words l.rows ++ l.rest }
