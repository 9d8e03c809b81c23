use Rattle.std.proofs.Common.{ap}
use Rattle.fol_model.specs.declared.openings.Opening.{Opening}
use Rattle.fol_core.proofs.Started.{are_first}
use Rattle.fol_core.proofs.machine.first_tables.Goals as goal

pub returns-clause-first : goal.returns-clause-first
returns-clause-first c =
    let made = c.with_regions.ensures in
    let laid = c.in_ok-store.ensures in
    are_first c.args.opening.now _ c.in_ok-store.store c.with_regions.result (rw (← c.opening.view_is) c.opening.invariant.grid) (ap (λ (o : Opening). o.grid) c.opening.view_is) laid.contents laid.tasks laid.bags laid.next
    made.grid made.regions made.store made.tickets made.agenda made.course
