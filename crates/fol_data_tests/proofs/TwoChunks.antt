-- The chunks of the worlds whose regions are gathered: one west of the origin, one at it.
use Rattle.std.proofs.Common.{refl, List, [], ◌∷◌, pos, negsuc}
use Rattle.std.specs.Prelude.{All, IsTrue}
use Rattle.std.specs.List.Sorted.{IsStrictlySortedBy}
use Rattle.std.proofs.lemmas.List.Elements.{All-cons, All-nil}
use Rattle.fol_model.specs.declared.places.ChunkPos.{ChunkPos}
use Rattle.fol_model.specs.Geometry.{is_chunk}
use Rattle.fol_model.specs.Universe.{chunk_cmp}

abbrev west : ChunkPos
west = record { x = negsuc 0; z = pos 0 }

abbrev east : ChunkPos
east = record { x = pos 0; z = pos 0 }

abbrev pub two_chunks : List ChunkPos
two_chunks = west ∷ east ∷ []

pub two_chunks_in_order : IsStrictlySortedBy chunk_cmp two_chunks
unfolding IsStrictlySortedBy chunk_cmp
two_chunks_in_order = ((refl, tt), (tt, tt))

pub two_chunks_are_chunks : All (λ c. IsTrue (is_chunk c)) two_chunks
unfolding is_chunk
two_chunks_are_chunks = All-cons (λ (c : ChunkPos). IsTrue (is_chunk c)) west (east ∷ []) refl (All-cons (λ (c : ChunkPos). IsTrue (is_chunk c)) east [] refl (All-nil (λ (c : ChunkPos). IsTrue (is_chunk c))))
