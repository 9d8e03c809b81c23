use Rattle.fol_report_reader.proofs.Lines.{region_line}
use Rattle.fol_report_reader.proofs.reading.read_regions.Goals as goal

pub read_part-requires-clause-one_line : goal.read_part-requires-clause-one_line
read_part-requires-clause-one_line c = region_line
