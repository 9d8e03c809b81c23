use Rattle.fol_report_reader.proofs.Lines.{entry_line}
use Rattle.fol_report_reader.proofs.reading.read_events.Goals as goal

pub read_part-requires-clause-one_line : goal.read_part-requires-clause-one_line
read_part-requires-clause-one_line c = entry_line
