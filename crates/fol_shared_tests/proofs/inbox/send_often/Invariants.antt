use Rattle.std.proofs.Common.{◌≡◌}
use Rattle.fol_inbox.specs.Ids.{inbox_id}
use Rattle.fol_shared_tests.proofs.inbox.send_often.Given as goal

abbrev pub invariant-loop-place : goal.invariant-loop-place
invariant-loop-place g l = (l.sender.inbox ≡ inbox_id l.inbox) × (l.sender.number ≡ l.initial.sender.number)
