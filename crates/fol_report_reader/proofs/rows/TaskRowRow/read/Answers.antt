use Rattle.std.proofs.Common.{sym}
use Rattle.std.proofs.lemmas.Result.{IfOk-weaker}
use Rattle.fol_model.specs.ReportWords.{task_words}
use Rattle.fol_events.proofs.Cuts.{line_of_words}
use Rattle.fol_report_reader.proofs.Lines.{tasks_ink, words_of}
use Rattle.fol_report_reader.proofs.rows.TaskRowRow.read.Goals as goal

pub returns-clause-found : goal.returns-clause-found
returns-clause-found c = IfOk-weaker c.task.result _ _ (λ r p. (p.0, line_of_words (task_words r) c.args.line.now (sym p.1))) c.task.ensures.found

pub returns-clause-none : goal.returns-clause-none
returns-clause-none c k r h e = c.task.ensures.none k r h (words_of task_words tasks_ink r c.args.line.now e)
