use Rattle.std.proofs.Common.{◌∙◌, sym, ap, Err}
use Rattle.fol_model.specs.ReportWords.{event_words}
use Rattle.fol_events.specs.declared.faults.Fault.{Fault}
use Rattle.fol_events.proofs.Cuts.{line_cut, event_some, event_ink}
use Rattle.fol_events.proofs.lines.event_line.Goals as goal

pub returns-in_err-event-clause-none : goal.returns-in_err-event-clause-none
returns-in_err-event-clause-none c k e rest r eq =
    let found = c.in_ok-line.ensures.found in
    let same = rw k at c.from_residual-in_err-event.ensures in
    let none = c.in_err-event.ensures.none (ap (λ (f : Fault). Err f) (sym same.1)) in
    none e r (line_cut (event_words e) c.in_ok-line.line.now c.in_ok-line.rest.now rest (event_some e) (event_ink e) found.0 (sym found.1 ∙ eq)).0
