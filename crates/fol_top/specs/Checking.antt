-- How a check of a report can end the work.
use Rattle.std.specs.Prelude.{ℕ, ◌≡◌, List, Option}
use Rattle.fol_model.specs.declared.openings.Opening.{Opening}
use Rattle.fol_model.specs.declared.scripts.Command.{Command}
use Rattle.fol_check.specs.Verdicts.{Judges}
use Rattle.fol_check.specs.declared.verdicts.Verdict.TheVariants.{Text, Event, State}
use Rattle.fol_top.specs.Report.{SaysLegal}
use Rattle.fol_top.specs.Writing.{OutputEnds}
use Rattle.fol_top.specs.declared.ending.Ending.{Ending}
use Rattle.fol_top.specs.declared.ending.Ending.TheVariants.{ReportText, ReportEvent, ReportState}

-- with the verdict, where it is not Legal; else with what is written. It has the opening and the script, the report, and what `OutputEnds` has
abbrev pub CheckEnds : Opening → List Command → List ℕ → Option (List ℕ) → Option (List ℕ) → ℕ → ℕ → ℕ → ℕ → Ending → Type 0
CheckEnds o script report before now faults later puts puts_later (ReportText line) = Judges o script report (Text line) × (now ≡ before)
CheckEnds o script report before now faults later puts puts_later (ReportEvent number) = Judges o script report (Event number) × (now ≡ before)
CheckEnds o script report before now faults later puts puts_later (ReportState line) = Judges o script report (State line) × (now ≡ before)
CheckEnds o script report before now faults later puts puts_later ending = OutputEnds (SaysLegal o script report) before now faults later puts puts_later ending
