use Rattle.std.proofs.Common.{sym, ◌∙◌, ap, arith}
use Rattle.fol_model.specs.declared.places.ChunkPos.{ChunkPos}
use Rattle.fol_keyed.specs.Order.{chunk_cmp}
use Rattle.fol_keyed.proofs.Places.{chunk_cmp_total}
use Rattle.std.specs.Ordering.{is_gt}
use Rattle.fol_keyed.proofs.Sorted.{all_above}
use Rattle.fol_keyed.proofs.chunk_list.is_ahead.Goals as goal

pub returns-else-i-chunks : goal.returns-else-i-chunks
returns-else-i-chunks c = λ t.
    all_above (λ (q : ChunkPos). q) chunk_cmp chunk_cmp_total c.args.chunks.now c.args.i _ c.args.c c.requires.order (omega arith)
    (ap is_gt (sym c.compare_chunks.ensures) ∙ sym c.is_gt.ensures ∙ t)
