-- The lines of a history that are still to be put.
use Rattle.std.specs.Prelude.{ℕ, List, [], ◌∷◌, ◌++◌, drop, Option, Some, None}
use Rattle.fol_model.specs.ReportWords.{entry_words}
use Rattle.fol_report.specs.Rests.{rest_words}
use Rattle.fol_report.specs.Spaced.{spaced, joined_lines}
use Rattle.fol_report.specs.declared.rest.Rest.{Rest}
use Rattle.fol_report.specs.declared.history.Lines.{Lines}

-- the text of what is left of a line that was begun
abbrev pub line_left : Option Rest → List ℕ
line_left None = []
line_left (Some rest) = spaced (rest_words rest) ++ 10 ∷ []

abbrev pub lines_left : Lines → List ℕ
lines_left lines = drop lines.given lines.page ++ (line_left lines.rest ++ joined_lines entry_words lines.rows.now)
