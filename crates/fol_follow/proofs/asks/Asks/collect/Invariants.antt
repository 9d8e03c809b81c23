use Rattle.fol_follow.proofs.Collecting.{IsCollecting}
use Rattle.fol_follow.proofs.asks.Asks.collect.Given as goal

abbrev pub invariant-loop-number : goal.invariant-loop-number
invariant-loop-number l = IsCollecting l.self.rows l.place l.due l.number l.fn.visits.items l.visits.items

abbrev pub decreases-loop-number : goal.decreases-loop-number
decreases-loop-number l = l.number
