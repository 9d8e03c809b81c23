use Rattle.std.proofs.Common.{◌≡◌, ◌≤◌}
use Rattle.std.specs.Prelude.{None}
use Rattle.fol_live.specs.Hands.{MissesThese}
use Rattle.fol_live.specs.Rounds.{numbers_from}
use Rattle.fol_live.proofs.hand.Hand.claim_within.Given as goal

-- the slots so far were tried, and none was ready
abbrev pub invariant-loop-i : goal.invariant-loop-i
invariant-loop-i l = record {
  reached : l.fn.first ≤ l.i;
  empty : l.self-inside.region ≡ None;
  missed : MissesThese l.fn.self l.self-inside.worker (numbers_from l.fn.first l.i);
}
