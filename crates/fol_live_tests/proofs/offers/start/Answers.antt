use Rattle.std.proofs.Common.{rules}
use Rattle.std.specs.List.Sorted.{IsStrictlySortedBy}
use Rattle.fol_slots.specs.Table.{slots_id}
use Rattle.fol_slots.proofs.Callers.{new_free}
use Rattle.fol_offers.proofs.Turns.{turns_first}
use Rattle.fol_live_tests.proofs.offers.start.Goals as goal

pub invariant_of-opening : goal.invariant_of-opening
unfolding IsStrictlySortedBy
invariant_of-opening g c = search rules

pub returns-clause-seats : goal.returns-clause-seats
returns-clause-seats g c = new_free (slots_id c.expect.result.slots) 2 c.expect.result.seats (search rules)

pub start-requires-2-clause-turns : goal.start-requires-2-clause-turns
start-requires-2-clause-turns g c = turns_first 2 c.expect-core.result.history (search rules)
