use Rattle.fol_check.proofs.Judging.{one_verdict}
use Rattle.fol_check.proofs.one_verdict.Goals as goal

pub returns : goal.returns
returns c = one_verdict
