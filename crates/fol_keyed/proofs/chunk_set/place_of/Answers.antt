use Rattle.std.proofs.Common.{arith, rules}
use Rattle.std.proofs.lemmas.Fn.{always_returns_same}
use Rattle.fol_model.specs.declared.places.ChunkPos.{ChunkPos}
use Rattle.fol_keyed.specs.Order.{chunk_cmp}
use Rattle.fol_keyed.proofs.Places.{chunk_cmp_total, chunk_cmp_tells}
use Rattle.fol_keyed.proofs.Sorted.{searched_by}
use Rattle.fol_keyed.proofs.chunk_set.place_of.Goals as goal

pub returns-then-is_behind : goal.returns-then-is_behind
returns-then-is_behind c = (omega arith, (c.is_behind.ensures c.if-is_behind.true, λ k d l m. absurd (omega arith)))

pub returns : goal.returns
returns c =
    searched_by (λ (q : ChunkPos). q) chunk_cmp chunk_cmp_total chunk_cmp_tells _ c.args.c c.binary_search_by.result c.requires c.binary_search_by.ensures.bound
    (c.binary_search_by.ensures.position (λ q. chunk_cmp q c.args.c) (always_returns_same _ _ _ (λ a r f k. search rules)))
