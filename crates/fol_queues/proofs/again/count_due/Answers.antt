use Rattle.std.proofs.Common.{sym, ◌∙◌}
use Rattle.std.proofs.lemmas.List.{length-map}
use Rattle.fol_keyed.proofs.Keyed.{count_all, count_none}
use Rattle.fol_queues.specs.Waiting.{is_due}
use Rattle.fol_queues.specs.Again.{dated_at}
use Rattle.fol_queues.proofs.Coming.{all_at, all_due, none_due_again}
use Rattle.fol_queues.proofs.again.count_due.Goals as goal

pub returns-then-deadline-now : goal.returns-then-deadline-now
returns-then-deadline-now c =
    let due = all_due c.args.now c.args.deadline c.args.again.now c.if-deadline-now.true in
    sym (count_all (is_due c.args.now) (all_at c.args.deadline c.args.again.now) due ∙ length-map c.args.again.now (dated_at c.args.deadline))

pub returns-else-deadline-now : goal.returns-else-deadline-now
returns-else-deadline-now c = sym (count_none (is_due c.args.now) (all_at c.args.deadline c.args.again.now) (none_due_again c.args.now c.args.deadline c.args.again.now c.if-deadline-now.false))
