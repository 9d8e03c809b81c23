use Rattle.std.proofs.Common.{◌≡◌, arith, codes}
use Rattle.std.proofs.lemmas.Grind.{common_steps}
use Rattle.fol_model.specs.LineWords.{lines_of}
use Rattle.fol_report.specs.Spaced.{marked}
use Rattle.fol_report.proofs.Joined.{joined_lines_of}
use Rattle.fol_report.proofs.lines.put_part.Goals as goal

pub returns : goal.returns
returns g c =
    let e : marked (codes "\n") g.R.Line.words c.args.rows.now ≡ lines_of g.R.Line.words c.args.rows.now = joined_lines_of g.R.Line.words c.args.rows.now in
    grind (arith, common_steps, e)
