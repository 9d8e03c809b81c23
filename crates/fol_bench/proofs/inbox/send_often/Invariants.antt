use Rattle.std.proofs.Common.{◌≡◌}
use Rattle.fol_inbox.specs.Ids.{inbox_id}
use Rattle.fol_bench.proofs.inbox.send_often.Given as goal

abbrev pub invariant-loop : goal.invariant-loop
invariant-loop g l = l.sender.inbox ≡ inbox_id l.inbox
