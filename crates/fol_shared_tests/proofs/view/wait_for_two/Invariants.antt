use Rattle.std.proofs.Common.{◌≡◌}
use Rattle.fol_shared_tests.proofs.view.wait_for_two.Given as goal

abbrev pub invariant-loop : goal.invariant-loop
invariant-loop g l =
    (goal.iterator-loop g).can_next l.iterator' × (goal.iterator-loop g).is_finite l.iterator' × (l.reader.book ≡ l.fn.reader.book)
