use Rattle.std.proofs.Common.{◌≡◌}
use Rattle.fol_live.specs.Lives.{live_id}
use Rattle.fol_bench.proofs.view.refresh_often.Given as goal

abbrev pub invariant-loop : goal.invariant-loop
invariant-loop g l = (l.writer.seat.lock ≡ live_id l.live) × (l.writer.book ≡ l.fn.writer.book)
