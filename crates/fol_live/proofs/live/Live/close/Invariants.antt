use Rattle.std.proofs.Common.{◌≡◌, ◌+◌, ◌≤◌, ◌++◌, length, vec_len, vec_capacity, map, All}
use Rattle.std.specs.Vec.Iter.{into_iter_items, into_iter_len}
use Rattle.fol_live.proofs.Gathering.{bare, plain}
use Rattle.fol_live.proofs.Taken.{IsIdleSeat}
use Rattle.fol_live.proofs.live.Live.close.Given as goal

-- the seats that are taken, and those to come, are all of them, but for what they have of the slots
abbrev pub invariant-loop-seat : goal.invariant-loop-seat
invariant-loop-seat l = record {
  counted : into_iter_len l.seat-iterator ≡ length (into_iter_items l.seat-iterator);
  room : vec_len l.inner + into_iter_len l.seat-iterator ≤ vec_capacity l.inner;
  whole : map plain l.inner.items ++ map bare (into_iter_items l.seat-iterator) ≡ map bare (into_iter_items l.initial.seat-iterator);
  idle : All IsIdleSeat l.inner.items;
}
