use Rattle.std.proofs.Common.{arith}
use Rattle.std.proofs.lemmas.Grind.{common_steps}
use Rattle.fol_report.proofs.Quoted.{quoted_to_last}
use Rattle.fol_report.proofs.json_form.put_quoted.Goals as goal

pub returns : goal.returns
returns g c =
    let e = quoted_to_last g.R.Line.words c.in-Some.others.now c.in-Some.last.now in
    grind (arith, common_steps, e)
