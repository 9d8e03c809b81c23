use Rattle.std.proofs.Common.{◌≡◌, take}
use Rattle.fol_follow.specs.Table.{visits_in}
use Rattle.fol_follow.proofs.Pendings.{AreRaised}
use Rattle.fol_follow.proofs.asks.Asks.lower.Given as goal

abbrev pub invariant-loop-place : goal.invariant-loop-place
invariant-loop-place l = record {
  raised : AreRaised (take l.place-index l.here) (visits_in l.fn.self.counts) (visits_in l.self.counts);
  rows : l.self.rows ≡ l.fn.self.rows;
}
