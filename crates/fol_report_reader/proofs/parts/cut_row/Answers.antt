use Rattle.std.proofs.Common.{◌∙◌, sym, ap, Err}
use Rattle.fol_model.specs.TextLines.{line_of}
use Rattle.fol_events.specs.declared.faults.Fault.{Fault}
use Rattle.fol_events.proofs.Cuts.{line_end, one_cut}
use Rattle.fol_report_reader.proofs.parts.cut_row.Goals as goal

pub returns-in_err-row-clause-none : goal.returns-in_err-row-clause-none
returns-in_err-row-clause-none g c k r rest h eq =
    let found = c.in_ok-line.ensures.found in
    let same = rw k at c.from_residual-in_err-row.ensures in
    let none = c.in_err-row.ensures.none (ap (λ (f : Fault). Err f) (sym same.1)) in
    none r h (one_cut c.in_ok-line.line.now (line_of (g.R.Row.words r)) c.in_ok-line.rest.now rest found.0 (c.requires r) (sym found.1 ∙ eq ∙ line_end (g.R.Row.words r) rest)).0
