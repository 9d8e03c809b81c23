use Rattle.std.proofs.Common.{◌∷◌, arith}
use Rattle.std.specs.List.Sorted.{IsPermutation}
use Rattle.std.proofs.lemmas.List.Sorted.{IsPermutation-trans, IsPermutation-cons, IsPermutation-swap_remove}
use Rattle.fol_keyed.proofs.Written.{written}
use Rattle.fol_queues.proofs.Turns.{taken}
use Rattle.fol_queues.proofs.heap.take_first.Goals as goal

pub returns-clause-same : goal.returns-clause-same
returns-clause-same c =
    let all = written c.swap_remove-first.new.self.len c.sink.new.tasks c.swap_remove-first.new.self.items (omega arith) (omega arith) in
    let out : IsPermutation c.args.tasks.now.items (c.swap_remove-first.result ∷ c.swap_remove-first.new.self.items) =
    rw c.swap_remove-first.ensures.items (IsPermutation-swap_remove c.args.tasks.now.items 0 c.swap_remove-first.result (omega arith) c.swap_remove-first.ensures.value) in
    rw all (IsPermutation-trans _ _ _ out (IsPermutation-cons c.swap_remove-first.result _ _ (rw c.deref_mut.ensures.value at c.sink.ensures.same)))

pub returns-clause-order : goal.returns-clause-order
returns-clause-order c =
    let all = written c.swap_remove-first.new.self.len c.sink.new.tasks c.swap_remove-first.new.self.items (omega arith) (omega arith) in
    rw all (taken c.args.tasks.now.items _ c.sink.new.tasks c.swap_remove-first.result _ (omega arith) (omega arith) c.swap_remove-first.ensures.value c.swap_remove-first.ensures.items (rw c.deref_mut.ensures.value at c.sink.ensures.sinks) c.requires.order)
