use Rattle.std.proofs.Common.{◌++◌, ◌∙◌, ap, arith, length}
use Rattle.fol_queues.proofs.Coming.{again_counted, again_taken}
use Rattle.fol_queues.proofs.walks.move_again.Goals as goal

pub move_into-requires : goal.move_into-requires
move_into-requires c = omega (arith, c.requires.room, ap length c.requires.empty, again_counted c.args.now c.args.deadline c.args.tasks.now.items c.args.again.now.items c.if-deadline-now.true)

pub returns-then-deadline-now-clause-taking : goal.returns-then-deadline-now-clause-taking
returns-then-deadline-now-clause-taking c =
    again_taken c.args.now c.args.deadline c.args.tasks.now.items c.args.again.now.items _ c.if-deadline-now.true
    (c.move_into.ensures.all ∙ ap (λ ts. ts ++ c.args.again.now.items) c.requires.empty)
