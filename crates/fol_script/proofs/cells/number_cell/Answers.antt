use Rattle.std.proofs.Common.{sym}
use Rattle.fol_script.proofs.Going.{notes_none, notes_far}
use Rattle.fol_script.proofs.cells.number_cell.Goals as goal

pub returns-in-NoNumber-clause-marks : goal.returns-in-NoNumber-clause-marks
returns-in-NoNumber-clause-marks c = notes_none c.args.marks.now c.args.number (sym c.in-NoNumber.is)

pub returns-in-Outside-clause-marks : goal.returns-in-Outside-clause-marks
returns-in-Outside-clause-marks c = notes_far c.args.marks.now c.args.number (sym c.in-Outside.is)
