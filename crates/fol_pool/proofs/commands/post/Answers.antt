use Rattle.std.proofs.Common.{sym, ◌∙◌}
use Rattle.fol_pool.proofs.Issuing.{issued_post}
use Rattle.fol_pool.proofs.commands.post.Goals as goal

pub returns-in-Ok-Posted-clause-issued : goal.returns-in-Ok-Posted-clause-issued
returns-in-Ok-Posted-clause-issued g c =
    let x = c.in-Ok-Posted in
    issued_post c.args.caller.now c.post.new.seat c.args.chunk c.args.delay c.args.action x.field-0 c.requires.zero x.ensures (λ y over. let never = sym x.field-0-is ∙ over in absurd (cc))

pub returns-in-Ok-Full-clause-issued : goal.returns-in-Ok-Full-clause-issued
returns-in-Ok-Full-clause-issued g c =
    let x = c.in-Ok-Full in
    issued_post c.args.caller.now c.post.new.seat c.args.chunk c.args.delay c.args.action x.field-0 c.requires.zero x.ensures (λ y over. let never = sym x.field-0-is ∙ over in absurd (cc))
