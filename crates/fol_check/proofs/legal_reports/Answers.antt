use Rattle.fol_check.proofs.SameBy.{is_report, report_is}
use Rattle.fol_check.proofs.legal_reports.Goals as goal

pub returns : goal.returns
returns c = λ o cs bytes grid short size. (is_report o cs bytes, report_is o cs bytes grid short size)
