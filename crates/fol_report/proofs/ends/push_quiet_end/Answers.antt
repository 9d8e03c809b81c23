use Rattle.std.proofs.Common.{[]}
use Rattle.fol_report.proofs.Behind.{both_behind}
use Rattle.fol_report.proofs.Joined.{quiet_end}
use Rattle.fol_report.proofs.ends.push_quiet_end.Goals as goal

pub returns-clause-text : goal.returns-clause-text
returns-clause-text c =
    let a = c.args in
    both_behind [] a.page.now _ _ _ _ _ c.push_ended.ensures.text c.push_word.ensures (quiet_end a.worker a.region a.tick)
