use Rattle.std.proofs.Common.{◌-◌, sym, ◌∙◌, ap, arith, length}
use Rattle.std.specs.Ordering.{is_lt}
use Rattle.fol_model.specs.declared.places.ChunkPos.{ChunkPos}
use Rattle.fol_keyed.specs.Order.{chunk_cmp}
use Rattle.fol_keyed.proofs.Places.{chunk_cmp_total}
use Rattle.fol_keyed.proofs.Sorted.{all_below}
use Rattle.fol_keyed.proofs.chunk_set.is_behind.Goals as goal

pub returns-else-is_empty : goal.returns-else-is_empty
returns-else-is_empty c = λ t k d l m.
    all_below (λ (q : ChunkPos). q) chunk_cmp chunk_cmp_total c.args.chunks.now (length c.args.chunks.now - 1) _ c.args.c c.requires (omega arith)
    (ap is_lt (sym c.compare_chunks.ensures) ∙ sym c.is_lt.ensures ∙ t) k d l (omega arith)
