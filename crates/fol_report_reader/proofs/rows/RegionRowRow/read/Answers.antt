use Rattle.std.proofs.Common.{◌∙◌, sym}
use Rattle.std.proofs.lemmas.Result.{IfOk-weaker}
use Rattle.fol_model.specs.ReportWords.{region_words}
use Rattle.fol_events.proofs.Cuts.{line_of_words}
use Rattle.fol_report_reader.proofs.Lines.{regions_ink, words_of}
use Rattle.fol_report_reader.proofs.rows.RegionRowRow.read.Goals as goal

pub returns-clause-found : goal.returns-clause-found
returns-clause-found c = IfOk-weaker c.region.result _ _ (λ r p. (p.0, line_of_words (region_words r) c.args.line.now (sym p.1 ∙ c.of-words.ensures))) c.region.ensures.found

pub returns-clause-none : goal.returns-clause-none
returns-clause-none c k r h e = let n = rw k at c.region.ensures.none in n r h (c.of-words.ensures ∙ words_of region_words regions_ink r c.args.line.now e)
