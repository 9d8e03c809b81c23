use Rattle.std.proofs.Common.{◌≡◌, ◌+◌, refl, ◌∙◌, ap, rules, true, false, Some, get_or}
use Rattle.std.specs.Ordering.{int_cmp, is_le, is_lt, is_some_and, ordering_reverse, ordering_then, partial_ordering_then}
use Rattle.std.specs.declared.cmp.Ordering.{Ordering}
use Rattle.std.specs.declared.cmp.Ordering.TheVariants.{Less, Equal, Greater}
use Rattle.std.proofs.lemmas.List.Sorted.{answers_always}
use Rattle.fol_model.specs.Universe.{chunk_cmp}
use Rattle.fol_model.specs.declared.places.ChunkPos.{ChunkPos}
use Rattle.fol_laws.proofs.ChunkOrder.{chunks_tell}
use Rattle.fol_regions.proofs.chunks.put_in_order.Goals as goal

pub returns-then-not-is_sorted_by_key-clause-sorted : goal.returns-then-not-is_sorted_by_key-clause-sorted
unfolding chunk_cmp
returns-then-not-is_sorted_by_key-clause-sorted c = c.sort_unstable_by_key.ensures.sorted (λ (s : ChunkPos). (s.z, s.x)) (answers_always _ _ _ (λ f a r g h. search rules))

-- of two chunks of which the first is not behind the second, the second is not before the first
not_below : (a b : ChunkPos) → true ≡ is_some_and is_le (partial_ordering_then (Some (int_cmp a.z b.z)) (Some (int_cmp a.x b.x))) → is_lt (chunk_cmp b a) ≡ false
unfolding chunk_cmp
not_below a b h = ap is_lt (chunks_tell.order.antisymm b a) ∙ go (int_cmp a.z b.z) (int_cmp a.x b.x) h
  where
    go : (z x : Ordering) → true ≡ is_some_and is_le (partial_ordering_then (Some z) (Some x)) → is_lt (ordering_reverse (ordering_then z x)) ≡ false
    go Less x h = refl
    go Equal Less h = refl
    go Equal Equal h = refl
    go Equal Greater h = h
    go Greater x h = h

pub returns-else-not-is_sorted_by_key-clause-sorted : goal.returns-else-not-is_sorted_by_key-clause-sorted
returns-else-not-is_sorted_by_key-clause-sorted c = λ k d z l.
    let same = c.deref.ensures.value in
    let up = c.if-not-is_sorted_by_key.ensures.cases (λ (s : ChunkPos). (s.z, s.x)) (answers_always _ _ _ (λ f a r g h. search rules)) in
    rw (← same) (not_below (get_or c.deref.result.now k d) (get_or c.deref.result.now (k + 1) d) (up k d (rw (← same) at l)))
