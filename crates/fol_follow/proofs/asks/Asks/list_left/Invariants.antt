use Rattle.std.proofs.Common.{◌≡◌, vec_capacity}
use Rattle.fol_follow.proofs.Counting.{IsLeaving}
use Rattle.fol_follow.proofs.asks.Asks.list_left.Given as goal

abbrev pub invariant-loop-index : goal.invariant-loop-index
invariant-loop-index l = record {
  leaving : IsLeaving l.self l.index l.left.items;
  capacity : vec_capacity l.left ≡ vec_capacity l.fn.left;
}
