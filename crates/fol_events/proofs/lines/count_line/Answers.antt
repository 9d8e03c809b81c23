use Rattle.std.proofs.Common.{◌∙◌, sym, [], ◌∷◌, codes, decimal, arith}
use Rattle.fol_events.proofs.Steps.{on_err}
use Rattle.fol_events.proofs.Cuts.{line_cut}
use Rattle.fol_events.proofs.OneReading.{count_ink}
use Rattle.fol_events.proofs.lines.count_line.Goals as goal

pub returns-in_err-count-clause-none : goal.returns-in_err-count-clause-none
returns-in_err-count-clause-none c =
    let found = c.in_ok-line.ensures.found in
    on_err c.from_residual-in_err-count.result (λ n rest few e.
    let cut = line_cut (codes "events" ∷ decimal n ∷ []) c.in_ok-line.line.now c.in_ok-line.rest.now rest (omega arith) (count_ink n) found.0 (sym found.1 ∙ e) in
    c.in_err-count.ensures.none n few cut.0)
