-- A walk over the sections of a square.
use Rattle.std.specs.Prelude.{◌+◌, ◌-◌, ◌++◌, List, pos, ◌+ℤ◌}
use Rattle.fol_model.specs.declared.places.SectionPos.{SectionPos}
use Rattle.fol_sections.specs.Rows.{row_of, rows_of, section_at}
use Rattle.fol_sections.specs.declared.walks.SquareRuns.{SquareRuns}

-- the sections that are still to come, in order: those of the row from the column on, and those of the rows behind it
unfoldable pub rest : SquareRuns → List SectionPos
rest w = row_of section_at (w.first.x +ℤ pos w.column) (w.first.z +ℤ pos w.row) (w.side - w.column)
    ++ rows_of section_at w.first.x (w.first.z +ℤ pos (w.row + 1)) (w.side - (w.row + 1)) w.side
