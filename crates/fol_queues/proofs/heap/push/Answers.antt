use Rattle.std.proofs.Common.{arith}
use Rattle.std_alloc.proofs.HeapSift.{pushed}
use Rattle.fol_keyed.proofs.Written.{written}
use Rattle.fol_queues.specs.Turn.{by_turn}
use Rattle.fol_queues.proofs.Turns.{by_turn_total}
use Rattle.fol_queues.proofs.heap.push.Goals as goal

pub returns-clause-order : goal.returns-clause-order
returns-clause-order c =
    let all = written c.push_reserved.new.self.len c.rise.new.tasks c.push_reserved.new.self.items (omega arith) (omega arith) in
    rw all (pushed by_turn by_turn_total c.args.tasks.now.items _ _ c.rise.new.tasks c.len-at.result (omega arith) c.push_reserved.ensures.items (omega arith) (rw c.deref_mut.ensures.value at c.rise.ensures.rises) c.requires.order)
