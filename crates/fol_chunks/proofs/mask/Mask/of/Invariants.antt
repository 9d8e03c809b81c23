use Rattle.std.proofs.Common.{◌≡◌, take}
use Rattle.fol_model.specs.declared.places.ChunkPos.{ChunkPos}
use Rattle.fol_chunks.specs.Contents.{is_recorded}
use Rattle.fol_chunks.specs.Masks.{is_marked}
use Rattle.fol_chunks.proofs.mask.Mask.of.Given as goal

abbrev pub invariant-loop-c : goal.invariant-loop-c
invariant-loop-c l = (q : ChunkPos) → is_recorded (take l.c-index l.chunks) q ≡ is_marked l.corner l.rows q
