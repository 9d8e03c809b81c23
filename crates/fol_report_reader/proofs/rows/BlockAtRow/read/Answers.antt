use Rattle.std.proofs.Common.{◌∙◌, sym}
use Rattle.std.proofs.lemmas.Result.{IfOk-weaker}
use Rattle.fol_model.specs.ReportWords.{block_row_words}
use Rattle.fol_events.proofs.Cuts.{line_of_words}
use Rattle.fol_report_laws.proofs.InkWords.{blocks_ink}
use Rattle.fol_report_reader.proofs.Lines.{words_of}
use Rattle.fol_report_reader.proofs.rows.BlockAtRow.read.Goals as goal

pub returns-clause-found : goal.returns-clause-found
returns-clause-found c = IfOk-weaker c.block.result _ _ (λ r p. (p.0, line_of_words (block_row_words r) c.args.line.now (sym p.1 ∙ c.of-words.ensures))) c.block.ensures.found

pub returns-clause-none : goal.returns-clause-none
returns-clause-none c k r h e = let n = rw k at c.block.ensures.none in n r h (c.of-words.ensures ∙ words_of block_row_words blocks_ink r c.args.line.now e)
