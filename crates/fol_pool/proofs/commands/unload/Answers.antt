use Rattle.std.proofs.Common.{sym, ◌∙◌}
use Rattle.fol_pool.proofs.Issuing.{issued_unload}
use Rattle.fol_pool.proofs.commands.unload.Goals as goal

pub returns-in-Ok-Lowered-clause-issued : goal.returns-in-Ok-Lowered-clause-issued
returns-in-Ok-Lowered-clause-issued g c =
    let x = c.in-Ok-Lowered in
    issued_unload c.args.caller.now c.unload.new.seat c.args.chunk x.field-0 c.requires.zero x.ensures (λ over. let never = sym x.field-0-is ∙ over in absurd (cc))

pub returns-in-Ok-NoTicket-clause-issued : goal.returns-in-Ok-NoTicket-clause-issued
returns-in-Ok-NoTicket-clause-issued g c =
    let x = c.in-Ok-NoTicket in
    issued_unload c.args.caller.now c.unload.new.seat c.args.chunk x.field-0 c.requires.zero x.ensures (λ over. let never = sym x.field-0-is ∙ over in absurd (cc))
