use Rattle.std.proofs.Common.{◌≡◌, ℕ, ◌+◌}
use Rattle.std.specs.VecDeque.{deque_len}
use Rattle.fol_report_laws.specs.Laws.{events}
use Rattle.fol_events.specs.InRange.{AllInRange}
use Rattle.fol_check.specs.Replays.{Played}
use Rattle.fol_check.proofs.replay.Replay.play.Given as goal

abbrev pub invariant-events : goal.invariant-events
invariant-events l = record {
  number : ℕ;
  place : l.place ≡ number + 1;
  played : Played l.self l.fn.self.core.opening l.fn.self.script (events l.fn.history) (events l.left.items) number;
  in_range : AllInRange l.left.items;
}

abbrev pub decreases-events : goal.decreases-events
decreases-events l = deque_len l.left
