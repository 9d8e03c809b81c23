use Rattle.std.proofs.Common.{sym}
use Rattle.fol_model.specs.Geometry.{same_chunk}
use Rattle.fol_keyed.specs.Order.{chunk_cmp}
use Rattle.fol_keyed.proofs.Places.{same_chunk-true, same_chunk-self, chunk_cmp_total}
use Rattle.fol_keyed.proofs.Searched.{gap_tells}
use Rattle.fol_keyed.proofs.chunk_list.ChunkList.gap.Goals as goal

pub returns-then-is_ahead : goal.returns-then-is_ahead
returns-then-is_ahead c = sym (gap_tells same_chunk same_chunk-true same_chunk-self chunk_cmp chunk_cmp_total _ c.args.i c.args.c (c.is_behind.ensures c.if-is_behind.true, c.is_ahead.ensures c.if-is_ahead.true))
