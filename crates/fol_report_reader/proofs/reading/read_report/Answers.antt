use Rattle.std.proofs.Common.{◌≡◌, ◌∙◌, ◌++◌, ℕ, List, ap, codes}
use Rattle.fol_report_reader.specs.Reports.{events_on}
use Rattle.fol_report_reader.proofs.Behind.{read_behind, whole}
use Rattle.fol_report_reader.proofs.reading.read_report.Goals as goal

pub returns-clause-report : goal.returns-clause-report
returns-clause-report c =
    let h = c.in_ok-history in
    let text = read_behind c.read_events.result c.behind.result (h.history, (h.regions, (h.owners, (h.tasks, (h.entities, h.blocks))))) 0 c.behind.ensures c.in_ok-history.was (λ r. c.in-Ok.text.now ≡ events_on r) c.read_events.ensures.found in
    c.in-Ok.ensures.found ∙ ap (λ (t : List ℕ). codes "report 1\n" ++ t) text ∙ whole (record { opening = c.args.opening; history = h.history; regions = h.regions; owners = h.owners; tasks = h.tasks; entities = h.entities; blocks = h.blocks })
