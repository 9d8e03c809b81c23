use Rattle.fol_events.proofs.Steps.{on_err}
use Rattle.fol_report_reader.proofs.rows.task_head.Goals as goal

pub returns-in_err-rest-clause-none : goal.returns-in_err-rest-clause-none
returns-in_err-rest-clause-none c = on_err c.from_residual-in_err-rest.result (λ n rest k more hn hk hr e. c.in_err-rest.ensures.none rest more hr (cc (c.in_ok-pass.ensures.found, c.in_ok-number.ensures.found, c.in_ok-chunk.ensures.found.1, e)))
