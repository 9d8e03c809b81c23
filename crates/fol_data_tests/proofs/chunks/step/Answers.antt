use Rattle.std.proofs.Common.{refl, IsTrue, [], ◌∷◌}
use Rattle.std.specs.Prelude.{pos}
use Rattle.std.specs.List.Sorted.{IsStrictlySortedBy}
use Rattle.std.proofs.lemmas.List.Elements.{All-nil, All-cons}
use Rattle.fol_model.specs.declared.places.ChunkPos.{ChunkPos}
use Rattle.fol_model.specs.Geometry.{is_chunk}
use Rattle.fol_model.specs.Universe.{chunk_cmp}
use Rattle.fol_data_tests.proofs.chunks.step.Goals as goal

pub step_entities-requires-clause-order : goal.step_entities-requires-clause-order
unfolding IsStrictlySortedBy chunk_cmp
step_entities-requires-clause-order c = rw (c.of.ensures, c.in_ok-recorded.ensures.items) ((refl, tt), (tt, tt))

-- the second chunk
second : ChunkPos
second = record { x = pos 1; z = pos 0 }

pub step_entities-requires-clause-places : goal.step_entities-requires-clause-places
unfolding is_chunk second
step_entities-requires-clause-places c =
    rw (c.of.ensures, c.in_ok-recorded.ensures.items)
    (All-cons (λ (q : ChunkPos). IsTrue (is_chunk q)) (record { x = pos 0; z = pos 0 }) (second ∷ []) refl
    (All-cons (λ (q : ChunkPos). IsTrue (is_chunk q)) second [] refl (All-nil (λ (q : ChunkPos). IsTrue (is_chunk q)))))
