use Rattle.std.proofs.Common.{◌≡◌, ◌∙◌, ℕ, ap}
use Rattle.std.specs.List.Sorted.{IsStrictlySortedBy}
use Rattle.fol_store.specs.Bag.{Bag}
use Rattle.fol_store.specs.Stock.{bag_of}
use Rattle.fol_data_tests.proofs.TwoChunks.{two_chunks_in_order, two_chunks_are_chunks}
use Rattle.fol_data_tests.proofs.stores.parts.Goals as goal

pub gather-requires-clause-order : goal.gather-requires-clause-order
gather-requires-clause-order c = two_chunks_in_order

pub gather-requires-clause-places : goal.gather-requires-clause-places
gather-requires-clause-places c = two_chunks_are_chunks

pub hand_over-requires-clause-order : goal.hand_over-requires-clause-order
unfolding IsStrictlySortedBy
hand_over-requires-clause-order c = rw c.in_ok-west.ensures.items (tt, tt)

pub hand_over-requires-clause-from_order : goal.hand_over-requires-clause-from_order
hand_over-requires-clause-from_order c w =
    let one : bag_of c.unsettle-2.new.self 1 ≡ bag_of c.gather.new.self 1
    = ap (λ (f : ℕ → Bag). f 1) c.unsettle-2.ensures.bags ∙ ap (λ (f : ℕ → Bag). f 1) c.open-2.ensures.bags ∙ ap (λ (f : ℕ → Bag). f 1) c.unsettle.ensures.bags ∙ ap (λ (f : ℕ → Bag). f 1) c.open.ensures.bags in
    let chunks = ap (λ (b : Bag). b.chunks) (one ∙ c.in_ok-gather.ensures.whole) in
    rw chunks two_chunks_in_order
