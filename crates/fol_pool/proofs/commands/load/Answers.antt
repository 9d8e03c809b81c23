use Rattle.std.proofs.Common.{sym, ◌∙◌}
use Rattle.fol_pool.proofs.Issuing.{issued_load}
use Rattle.fol_pool.proofs.commands.load.Goals as goal

pub returns-in-Ok-Counted-clause-issued : goal.returns-in-Ok-Counted-clause-issued
returns-in-Ok-Counted-clause-issued g c =
    let x = c.in-Ok-Counted in
    issued_load c.args.caller.now c.load.new.seat c.args.chunk x.field-0 c.requires.zero x.ensures (λ over. let never = sym x.field-0-is ∙ over in absurd (cc))

pub returns-in-Ok-Full-clause-issued : goal.returns-in-Ok-Full-clause-issued
returns-in-Ok-Full-clause-issued g c =
    let x = c.in-Ok-Full in
    issued_load c.args.caller.now c.load.new.seat c.args.chunk x.field-0 c.requires.zero x.ensures (λ over. let never = sym x.field-0-is ∙ over in absurd (cc))
