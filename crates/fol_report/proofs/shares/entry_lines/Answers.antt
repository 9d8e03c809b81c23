use Rattle.std.proofs.Common.{arith}
use Rattle.std.proofs.lemmas.Grind.{common_steps}
use Rattle.fol_model.specs.ReportWords.{entry_words}
use Rattle.fol_report.proofs.Joined.{joined_lines_of}
use Rattle.fol_report.proofs.shares.entry_lines.Goals as goal

pub returns : goal.returns
returns c = let e = joined_lines_of entry_words c.args.rows.now in grind (arith, common_steps, e)
