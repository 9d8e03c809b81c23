use Rattle.fol_report_reader.proofs.Lines.{owner_line}
use Rattle.fol_report_reader.proofs.reading.read_owners.Goals as goal

pub read_part-requires-clause-one_line : goal.read_part-requires-clause-one_line
read_part-requires-clause-one_line c = owner_line
