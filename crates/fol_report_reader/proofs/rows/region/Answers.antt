use Rattle.std.proofs.Common.{◌∷◌, codes, decimal}
use Rattle.fol_events.proofs.Steps.{on_err}
use Rattle.fol_report_reader.specs.Rows.{sizes_words}
use Rattle.fol_report_reader.proofs.rows.region.Goals as goal

pub returns-in_err-state-clause-none : goal.returns-in_err-state-clause-none
returns-in_err-state-clause-none c = on_err c.from_residual-in_err-state.result (λ t h e. c.in_err-state.ensures.none t.state (codes "tick" ∷ decimal t.tick ∷ sizes_words t.owed t.sections t.chunks) h.state (cc (c.in_ok-pass.ensures.found, c.in_ok-id.ensures.found, e)))

pub returns-in_err-tick-clause-none : goal.returns-in_err-tick-clause-none
returns-in_err-tick-clause-none c = on_err c.from_residual-in_err-tick.result (λ t h e. c.in_err-tick.ensures.none t.tick (sizes_words t.owed t.sections t.chunks) h.tick (cc (c.in_ok-pass.ensures.found, c.in_ok-id.ensures.found, c.in_ok-state.ensures.found.1, c.in_ok-pass-2.ensures.found, e)))

pub returns-in_err-owed-clause-none : goal.returns-in_err-owed-clause-none
returns-in_err-owed-clause-none c = on_err c.from_residual-in_err-owed.result (λ t h e. c.in_err-owed.ensures.none t.owed t.sections t.chunks h.owed h.sections h.chunks (cc (c.in_ok-pass.ensures.found, c.in_ok-id.ensures.found, c.in_ok-state.ensures.found.1, c.in_ok-pass-2.ensures.found, c.in_ok-tick.ensures.found, e)))
