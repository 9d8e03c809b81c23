-- Which task comes first: the heap's order.
use Rattle.std.specs.Prelude.{ℕ, ◌+◌, ◌≤◌, List, length}
use Rattle.std.specs.Ordering.{nat_cmp, on, flip_args}
use Rattle.std.specs.declared.cmp.Ordering.{Ordering}
use Rattle.std.specs.BinaryHeap.{IsHeap}
use Rattle.fol_model.specs.FlatTick.{Rising}
use Rattle.fol_model.specs.declared.tasks.Task.{Task}
use Rattle.fol_queues.specs.declared.dated.Dated.{Dated}
use Rattle.fol_queues.specs.Again.{with_again}
use Rattle.fol_queues.specs.Distinct.{Distinct}

-- the greater one is due first
abbrev pub by_turn : Dated → Dated → Ordering
by_turn = flip_args (on (λ d. d.deadline) nat_cmp)

-- no two tasks have one number; no task of the heap is due before its parent; those that came back stand by number, and the heap has a
-- place for each of them
pub record IsQueue (tasks : List Dated) (again : List Task) (deadline capacity : ℕ) : Type 0 where
  pub distinct : Distinct (with_again tasks again deadline)
  pub heap : IsHeap by_turn tasks
  pub rising : Rising again
  pub room : length tasks + length again ≤ capacity
