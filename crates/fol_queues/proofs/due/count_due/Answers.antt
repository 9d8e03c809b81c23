use Rattle.std.proofs.Common.{◌≡◌, false, length, sym, arith, ◌∙◌}
use Rattle.std.proofs.lemmas.List.Elements.{at_read}
use Rattle.std.proofs.lemmas.Bool.{eqb-true, lt-leb}
use Rattle.fol_queues.specs.Waiting.{is_due}
use Rattle.fol_queues.proofs.Below.{passing_none, passing_whole}
use Rattle.fol_queues.proofs.Turns.{none_due_below}
use Rattle.fol_queues.proofs.due.count_due.Goals as goal
use Rattle.fol_queues.proofs.due.count_due.Goals.{then-is_empty-via-then-is_empty, then-is_empty-via-else-is_empty+then-tasks-now}

pub returns-then-is_empty : goal.returns-then-is_empty
returns-then-is_empty c =
    let whole = passing_whole (is_due c.args.now) c.args.tasks.now 64 (omega arith) in
    elim c.then-is_empty.branch [
      | then-is_empty-via-then-is_empty w ↦
          sym (passing_none (is_due c.args.now) c.args.tasks.now (none_due_below c.args.now c.args.tasks.now c.requires) 64 0 (λ d l. absurd (omega (arith, eqb-true (length c.args.tasks.now) 0 (sym c.is_empty.ensures ∙ w.if-is_empty.true))))) ∙ whole
      | then-is_empty-via-else-is_empty+then-tasks-now w ↦
          sym (passing_none (is_due c.args.now) c.args.tasks.now (none_due_below c.args.now c.args.tasks.now c.requires) 64 0
          (λ d l. at_read c.args.tasks.now (λ e. is_due c.args.now e ≡ false) 0 w.index-tasks-0.result l w.index-tasks-0.is (rw w.index-tasks-0.is (lt-leb _ c.args.now w.if-tasks-now.true)) d)) ∙ whole
    ]

pub returns : goal.returns
returns c = c.count_below.ensures ∙ passing_whole (is_due c.args.now) c.args.tasks.now 64 (omega arith)
