use Rattle.std.proofs.Common.{◌≡◌, ◌+◌, ◌≤◌, ◌++◌, length, vec_len, vec_capacity}
use Rattle.std.specs.Prelude.{None}
use Rattle.std.specs.List.{AllByRecursion}
use Rattle.std.specs.Vec.Iter.{into_iter_items, into_iter_len}
use Rattle.fol_live.proofs.Dealing.{CanAllSit, IsFree, paired}
use Rattle.fol_live.proofs.deal.deal.Given as goal

-- the seats that are dealt, and those to come with the workers to come, are all of them
abbrev pub invariant-loop-seat : goal.invariant-loop-seat
invariant-loop-seat l = record {
  counted : into_iter_len l.seat-iterator ≡ length (into_iter_items l.seat-iterator);
  workers : into_iter_len l.rest ≡ length (into_iter_items l.rest);
  room : vec_len l.dealt + into_iter_len l.seat-iterator ≤ vec_capacity l.dealt;
  whole : l.dealt.items ++ paired l.hand (into_iter_items l.seat-iterator) (into_iter_items l.rest) ≡ paired None l.fn.seats.items l.fn.workers.items;
  sit : CanAllSit l.hand (into_iter_items l.seat-iterator) (into_iter_items l.rest);
  free : AllByRecursion IsFree (into_iter_items l.rest);
}
