-- A report that is still to be written.
use Rattle.std.specs.Prelude.{ℕ, List, ◌++◌}
use Rattle.fol_report.specs.Histories.{lines_left}
use Rattle.fol_report.specs.declared.whole.Unwritten.{Unwritten}

abbrev pub report_left : Unwritten → List ℕ
report_left report = lines_left report.lines ++ report.foot.now
