use Rattle.std.proofs.Common.{sym, ◌∙◌}
use Rattle.std.specs.Prelude.{Ok}
use Rattle.std.proofs.lemmas.List.{get_or_default}
use Rattle.fol_model.specs.Geometry.{same_chunk}
use Rattle.fol_keyed.specs.Order.{chunk_cmp}
use Rattle.fol_keyed.proofs.Places.{same_chunk-true, same_chunk-self, chunk_cmp_total, chunk_cmp_tells}
use Rattle.fol_keyed.proofs.Searched.{search_tells}
use Rattle.fol_keyed.proofs.chunk_list.ChunkList.glance.Goals as goal

pub returns-in-Equal : goal.returns-in-Equal
returns-in-Equal c =
    search_tells same_chunk same_chunk-true same_chunk-self chunk_cmp chunk_cmp_total c.args.self.now.chunks.now c.args.c (Ok c.guess-i.result)
    (c.guess-i.ensures, λ d. get_or_default c.args.self.now.chunks.now c.guess-i.result d _ c.guess-i.ensures ∙ chunk_cmp_tells _ c.args.c (sym c.compare_chunks.ensures ∙ c.in-Equal.is))
