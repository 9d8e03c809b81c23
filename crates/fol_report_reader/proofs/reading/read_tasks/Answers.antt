use Rattle.fol_report_reader.proofs.Lines.{task_line}
use Rattle.fol_report_reader.proofs.reading.read_tasks.Goals as goal

pub read_part-requires-clause-one_line : goal.read_part-requires-clause-one_line
read_part-requires-clause-one_line c = task_line
