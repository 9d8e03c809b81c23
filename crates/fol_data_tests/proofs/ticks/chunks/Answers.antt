use Rattle.std.proofs.Common.{List, [], ◌∷◌, refl}
use Rattle.std.specs.Prelude.{IsTrue, pos}
use Rattle.std.specs.List.Sorted.{IsStrictlySortedBy}
use Rattle.std.proofs.lemmas.List.Elements.{All-from_recursion}
use Rattle.fol_model.specs.declared.places.ChunkPos.{ChunkPos}
use Rattle.fol_model.specs.Geometry.{is_chunk}
use Rattle.fol_model.specs.Universe.{chunk_cmp}
use Rattle.fol_data_tests.proofs.ticks.chunks.Goals as goal

pub returns-clause-order : goal.returns-clause-order
unfolding IsStrictlySortedBy chunk_cmp
returns-clause-order c = rw (c.of.ensures, c.in_ok-chunks.ensures.items) ((refl, tt), (tt, tt))

pub returns-clause-places : goal.returns-clause-places
unfolding is_chunk
returns-clause-places c =
    let chunks : List ChunkPos = (record { x = pos 0; z = pos 0 }) ∷ ((record { x = pos 1; z = pos 0 }) ∷ []) in
    rw (c.of.ensures, c.in_ok-chunks.ensures.items) (All-from_recursion (λ (q : ChunkPos). IsTrue (is_chunk q)) chunks (refl, (refl, tt)))
