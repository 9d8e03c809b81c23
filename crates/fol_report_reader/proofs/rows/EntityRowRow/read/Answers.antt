use Rattle.std.proofs.Common.{◌∙◌, sym}
use Rattle.std.proofs.lemmas.Result.{IfOk-weaker}
use Rattle.fol_model.specs.ReportWords.{entity_words}
use Rattle.fol_events.proofs.Cuts.{line_of_words}
use Rattle.fol_report_laws.proofs.InkWords.{entities_ink}
use Rattle.fol_report_reader.proofs.Lines.{words_of}
use Rattle.fol_report_reader.proofs.rows.EntityRowRow.read.Goals as goal

pub returns-clause-found : goal.returns-clause-found
returns-clause-found c = IfOk-weaker c.entity.result _ _ (λ r p. (p.0, line_of_words (entity_words r) c.args.line.now (sym p.1 ∙ c.of-words.ensures))) c.entity.ensures.found

pub returns-clause-none : goal.returns-clause-none
returns-clause-none c k r h e = let n = rw k at c.entity.ensures.none in n r h (c.of-words.ensures ∙ words_of entity_words entities_ink r c.args.line.now e)
