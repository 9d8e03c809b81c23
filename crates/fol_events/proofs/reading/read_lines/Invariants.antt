use Rattle.std.proofs.Common.{◌≡◌, ◌++◌, length}
use Rattle.fol_model.specs.LineWords.{lines_of}
use Rattle.fol_model.specs.ReportWords.{entry_words}
use Rattle.fol_events.specs.InRange.{AllInRange}
use Rattle.fol_events.proofs.reading.read_lines.Given as goal

abbrev pub invariant-loop-told : goal.invariant-loop-told
invariant-loop-told l = record { in_range : AllInRange l.entries.items; count : length l.entries.items ≡ l.told; text_is : l.text ≡ lines_of entry_words l.entries.items ++ l.rest }
