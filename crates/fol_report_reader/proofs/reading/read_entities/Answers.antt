use Rattle.fol_report_reader.proofs.Lines.{entity_line}
use Rattle.fol_report_reader.proofs.reading.read_entities.Goals as goal

pub read_part-requires-clause-one_line : goal.read_part-requires-clause-one_line
read_part-requires-clause-one_line c = entity_line
