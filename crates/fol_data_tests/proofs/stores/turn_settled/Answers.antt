use Rattle.fol_data_tests.proofs.TwoChunks.{two_chunks_in_order, two_chunks_are_chunks}
use Rattle.fol_data_tests.proofs.stores.turn_settled.Goals as goal

pub gather-requires-clause-order : goal.gather-requires-clause-order
gather-requires-clause-order c = two_chunks_in_order

pub gather-requires-clause-places : goal.gather-requires-clause-places
gather-requires-clause-places c = two_chunks_are_chunks
