use Rattle.std.proofs.Common.{◌≡◌, ◌+◌, ◌-◌, ◌<◌, ◌≤◌, ◌++◌, length, drop}
use Rattle.std.specs.List.Sorted.{IsStrictlySortedBy}
use Rattle.std.specs.Vec.{vec_capacity}
use Rattle.fol_keyed.specs.Order.{chunk_cmp}
use Rattle.fol_keyed.specs.ChunkSets.{changed}
use Rattle.fol_keyed.proofs.chunk_set.put_changed.Given as goal

abbrev pub invariant-loop-c : goal.invariant-loop-c
invariant-loop-c l = record {
  order : 0 < length l.changes → IsStrictlySortedBy chunk_cmp l.rest;
  room : length l.out.items + (length l.rest + (length l.changes - l.c-index)) ≤ vec_capacity l.out;
  put : l.out.items ++ changed l.rest (drop l.c-index l.changes) ≡ l.initial.out.items ++ changed l.list l.changes;
}
