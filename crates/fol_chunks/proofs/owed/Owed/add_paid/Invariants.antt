use Rattle.std.proofs.Common.{◌≡◌, ◌≤◌, ◌+◌, ◌++◌, map, take, vec_len}
use Rattle.std.specs.Vec.{vec_capacity}
use Rattle.fol_chunks.specs.Areas.{paid}
use Rattle.fol_chunks.proofs.owed.Owed.add_paid.Given as goal

abbrev pub invariant-loop-entity : goal.invariant-loop-entity
invariant-loop-entity l = record {
  items : l.list.items ≡ l.fn.list.items ++ map (paid l.self) (take l.entity-index l.entities);
  len : vec_len l.list ≡ vec_len l.fn.list + l.entity-index;
  capacity : vec_capacity l.fn.list ≤ vec_capacity l.list;
}
