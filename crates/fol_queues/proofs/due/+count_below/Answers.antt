use Rattle.std.proofs.Common.{◌≡◌, ℕ, ◌+◌, ◌-◌, ◌*◌, ◌≤◌, true, false, length, get_or, sym, arith}
use Rattle.std.proofs.lemmas.List.Elements.{at_read}
use Rattle.std.proofs.lemmas.Bool.{le-leb, lt-leb}
use Rattle.fol_queues.specs.Waiting.{is_due}
use Rattle.fol_queues.specs.Below.{passing_below}
use Rattle.fol_queues.proofs.Below.{passing_zero, passing_some, passing_none, passing_bound}
use Rattle.fol_queues.proofs.Turns.{none_due_below}
use Rattle.fol_queues.proofs.due.+count_below.Goals as goal
use Rattle.fol_queues.proofs.due.+count_below.Goals.{then-levels-eq0-via-then-levels-eq0, then-levels-eq0-via-else-levels-eq0+then-i-tasks, then-levels-eq0-via-else-levels-eq0+else-i-tasks+then-tasks-i}

pub returns-then-levels-eq0 : goal.returns-then-levels-eq0
returns-then-levels-eq0 t c =
    elim c.then-levels-eq0.branch [
      | then-levels-eq0-via-then-levels-eq0 w ↦ sym (passing_zero (is_due c.args.now) c.args.tasks.now c.args.levels c.args.i w.if-levels-eq0.true)
      | then-levels-eq0-via-else-levels-eq0+then-i-tasks w ↦
          sym (passing_none (is_due c.args.now) c.args.tasks.now (none_due_below c.args.now c.args.tasks.now c.requires) c.args.levels c.args.i (λ d l. absurd (omega arith)))
      | then-levels-eq0-via-else-levels-eq0+else-i-tasks+then-tasks-i w ↦
          sym (passing_none (is_due c.args.now) c.args.tasks.now (none_due_below c.args.now c.args.tasks.now c.requires) c.args.levels c.args.i
          (λ d l. at_read c.args.tasks.now (λ e. is_due c.args.now e ≡ false) c.args.i w.index-tasks-i.result l w.index-tasks-i.is (rw w.index-tasks-i.is (lt-leb _ c.args.now w.if-tasks-i.true)) d))
    ]

module _ (t : ℕ) (c : goal.Then-i-tasks-2 t) where
  none_below : (k : ℕ) → length c.args.tasks.now ≤ k → passing_below (is_due c.args.now) c.args.tasks.now (c.args.levels - 1) k ≡ 0
  none_below k l = passing_none (is_due c.args.now) c.args.tasks.now (none_due_below c.args.now c.args.tasks.now c.requires) (c.args.levels - 1) k (λ d m. absurd (omega arith))

pub returns-then-i-tasks-2 : goal.returns-then-i-tasks-2
returns-then-i-tasks-2 t c =
    let passes : is_due c.args.now (get_or c.args.tasks.now c.args.i c.index-tasks-i.result) ≡ true = le-leb _ c.args.now c.if-tasks-i.false in
    omega (
      arith,
      passing_some (is_due c.args.now) c.args.tasks.now c.args.levels (c.args.levels - 1) c.args.i c.index-tasks-i.result (omega arith) c.if-i-tasks.false passes,
      none_below t c (2 * c.args.i + 1) (omega arith),
      none_below t c (2 * c.args.i + 2) (omega arith),
    )

all : (t : ℕ) (c : goal.After-count_below-right t) → 1 + c.count_below-left.result + c.count_below-right.result ≡ passing_below (is_due c.args.now) c.args.tasks.now c.args.levels c.args.i
all t c =
    let passes : is_due c.args.now (get_or c.args.tasks.now c.args.i c.index-tasks-i.result) ≡ true = le-leb _ c.args.now c.if-tasks-i.false in
    omega (arith, passing_some (is_due c.args.now) c.args.tasks.now c.args.levels (c.args.levels - 1) c.args.i c.index-tasks-i.result (omega arith) c.if-i-tasks.false passes)

pub overflow_add-result : goal.overflow_add-result
overflow_add-result t c = omega (arith, all t c, passing_bound (is_due c.args.now) c.args.tasks.now c.args.levels c.args.i)

pub overflow_add-result-2 : goal.overflow_add-result-2
overflow_add-result-2 t c = omega (arith, all t c, passing_bound (is_due c.args.now) c.args.tasks.now c.args.levels c.args.i)

pub returns : goal.returns
returns t c = all t c
