use Rattle.std.proofs.Common.{◌∙◌, sym}
use Rattle.std.proofs.lemmas.Result.{IfOk-weaker}
use Rattle.fol_model.specs.ReportWords.{owner_words}
use Rattle.fol_events.proofs.Cuts.{line_of_words}
use Rattle.fol_report_reader.proofs.Lines.{owners_ink, words_of}
use Rattle.fol_report_reader.proofs.rows.OwnerRowRow.read.Goals as goal

pub returns-clause-found : goal.returns-clause-found
returns-clause-found c = IfOk-weaker c.owner.result _ _ (λ r p. (p.0, line_of_words (owner_words r) c.args.line.now (sym p.1 ∙ c.of-words.ensures))) c.owner.ensures.found

pub returns-clause-none : goal.returns-clause-none
returns-clause-none c k r h e = let n = rw k at c.owner.ensures.none in n r h (c.of-words.ensures ∙ words_of owner_words owners_ink r c.args.line.now e)
