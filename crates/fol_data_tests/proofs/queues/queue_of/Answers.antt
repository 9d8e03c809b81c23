use Rattle.std.proofs.Common.{◌≡◌, ℕ, refl, arith, Option, Some, IsNone}
use Rattle.std.proofs.lemmas.Bool.{ne_eqb}
use Rattle.fol_model.specs.ActionStep.{at_id}
use Rattle.fol_queues.specs.declared.dated.Dated.{Dated}
use Rattle.fol_queues.specs.Waiting.{dated}
use Rattle.fol_data_tests.proofs.queues.queue_of.Goals as goal

-- another number has a task no more than before
none_more : (before after : ℕ → Option Dated) (k n : ℕ) (d : Dated) → after ≡ at_id before k (Some d) → (k ≡ n → ⊥) → IsNone (before n) → IsNone (after n)
none_more before after k n d e other h = rw (e, ne_eqb k n other) h

pub accept-requires-clause-fresh : goal.accept-requires-clause-fresh
accept-requires-clause-fresh c = rw c.in_ok-reserve.ensures.tasks (c.loop-i.invariant c.task.result.number (omega (arith, c.task.ensures)))

pub loop-i-init : goal.loop-i-init
loop-i-init c = λ n l. rw c.new-queues.ensures.empty refl

pub loop-i-preserved : goal.loop-i-preserved
loop-i-preserved c = λ n l.
    none_more (dated c.reserve.new.self) (dated c.accept.new.self) c.task.result.number n _ c.accept.ensures.tasks (λ e. omega (arith, c.task.ensures)) (rw c.in_ok-reserve.ensures.tasks (c.loop-i.invariant n (omega arith)))
