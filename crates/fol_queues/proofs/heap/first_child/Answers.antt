use Rattle.std.proofs.Common.{arith}
use Rattle.std_alloc.proofs.HeapSift.{only_child, either_child}
use Rattle.fol_queues.specs.Turn.{by_turn}
use Rattle.fol_queues.proofs.Turns.{by_turn_total}
use Rattle.fol_queues.proofs.heap.first_child.Goals as goal

pub returns-then-tasks-left-clause-best : goal.returns-then-tasks-left-clause-best
returns-then-tasks-left-clause-best c = only_child by_turn by_turn_total _ _ _ _ (omega arith) (omega arith)

pub returns-clause-best : goal.returns-clause-best
returns-clause-best c = (either_child by_turn by_turn_total _ c.args.at _ _ _ (omega arith) c.is_later-is_left.ensures).1
