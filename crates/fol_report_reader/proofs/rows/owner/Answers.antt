use Rattle.std.proofs.Common.{[], ◌∷◌, decimal}
use Rattle.fol_events.proofs.Steps.{on_err}
use Rattle.fol_report_reader.proofs.rows.owner.Goals as goal

pub returns-in_err-z-clause-none : goal.returns-in_err-z-clause-none
returns-in_err-z-clause-none c = on_err c.from_residual-in_err-z.result (λ t h e. c.in_err-z.ensures.none t.at.z (decimal t.region ∷ []) h.1 (cc (c.in_ok-pass.ensures.found, c.in_ok-x.ensures.found.2, e)))

pub returns-in_err-region-clause-none : goal.returns-in_err-region-clause-none
returns-in_err-region-clause-none c = on_err c.from_residual-in_err-region.result (λ t h e. c.in_err-region.ensures.none t.region [] h.2 (cc (c.in_ok-pass.ensures.found, c.in_ok-x.ensures.found.2, c.in_ok-z.ensures.found.2, e)))
