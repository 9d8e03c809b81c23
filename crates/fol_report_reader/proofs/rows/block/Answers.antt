use Rattle.std.proofs.Common.{[]}
use Rattle.fol_events.proofs.Steps.{on_err}
use Rattle.fol_report_reader.proofs.rows.block.Goals as goal

pub returns-in_err-id-clause-none : goal.returns-in_err-id-clause-none
returns-in_err-id-clause-none c = on_err c.from_residual-in_err-id.result (λ t h e. c.in_err-id.ensures.none t.id [] (h.1, h.2) (cc (c.in_ok-pass.ensures.found, c.in_ok-at.ensures.found.1, e)))
