use Rattle.std.proofs.Common.{take}
use Rattle.fol_follow.specs.Table.{count_of}
use Rattle.fol_follow.proofs.Collecting.{IsGathering}
use Rattle.fol_follow.proofs.asks.Asks.due.Given as goal

abbrev pub invariant-loop-place : goal.invariant-loop-place
invariant-loop-place l = IsGathering (count_of l.self) l.self.rows (take l.place-index l.here) l.visits.items
