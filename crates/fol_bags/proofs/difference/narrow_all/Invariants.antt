use Rattle.std.proofs.Common.{◌≡◌, ◌&&◌, not, take}
use Rattle.std.specs.List.Sorted.{IsStrictlySortedBy}
use Rattle.fol_model.specs.declared.places.ChunkPos.{ChunkPos}
use Rattle.fol_chunks.specs.Contents.{is_recorded}
use Rattle.fol_chunks.specs.Order.{chunk_cmp}
use Rattle.fol_bags.proofs.difference.narrow_all.Given as goal

abbrev pub invariant-loop-c : goal.invariant-loop-c
invariant-loop-c l = record {
  order : IsStrictlySortedBy chunk_cmp l.set;
  has : (q : ChunkPos) → is_recorded l.set q ≡ (is_recorded l.fn.set q && not (is_recorded (take l.c-index l.others) q));
}
