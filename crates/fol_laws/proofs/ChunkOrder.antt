-- The list of all chunks is in order and has each chunk within the limits.
use Rattle.std.proofs.Common.{◌≡◌, ◌+◌, refl, sym, ◌∙◌, ap, Bool, true, false, cond, List, length}
use Rattle.std.specs.Prelude.{ℤ, ◌<ℤ◌, filter}
use Rattle.std.specs.List.{count_by, list_any}
use Rattle.std.specs.List.Sorted.{IsStrictlySortedBy}
use Rattle.std.specs.Ordering.{eq_by_cmp}
use Rattle.std.specs.declared.cmp.Ordering.TheVariants.{Less}
use Rattle.std.proofs.Math.Path.{fun_ext}
use Rattle.fol_model.specs.declared.places.ChunkPos.{ChunkPos}
use Rattle.fol_model.specs.Geometry.{same_chunk, is_chunk}
use Rattle.fol_model.specs.Universe.{coordinates, all_chunks, chunk_cmp}
use Rattle.fol_laws.specs.Orders.{Lists}
use Rattle.fol_model.proofs.PlaceKeys.{chunk_cmp_total, chunk_cmp_tells, same_chunk-true, same_chunk-self}
use Rattle.fol_laws.proofs.AllSections.{some_chunk-is, some_chunk-gives}
use Rattle.fol_laws.proofs.Listed as listed
use Rattle.fol_laws.proofs.Listed.{Tells}
use Rattle.fol_laws.proofs.Tests.{same_answer}
use Rattle.fol_laws.proofs.OrderSteps.{less, equal_self}
use Rattle.fol_laws.proofs.SortedRows.{plane_sorted}

pub chunks_tell : Tells chunk_cmp
chunks_tell = record { order = chunk_cmp_total; same = chunk_cmp_tells }

in_row : (z x y : ℤ) → x <ℤ y → chunk_cmp (record { x = x; z = z }) (record { x = y; z = z }) ≡ Less
unfolding chunk_cmp
in_row z x y h = let f = equal_self z in let e = less x y h in rw (f, e) refl

row_before : (z w x y : ℤ) → z <ℤ w → chunk_cmp (record { x = x; z = z }) (record { x = y; z = w }) ≡ Less
unfolding chunk_cmp
row_before z w x y h = let e = less z w h in rw e refl

pub chunks_sorted : IsStrictlySortedBy chunk_cmp all_chunks
unfolding all_chunks coordinates
chunks_sorted = plane_sorted chunk_cmp (λ z x. record { x = x; z = z }) in_row row_before _ _ _ _

-- the order ties just what is one chunk
tied : (a b : ChunkPos) → eq_by_cmp chunk_cmp a b ≡ same_chunk a b
tied a b = same_answer (eq_by_cmp chunk_cmp a b) (same_chunk a b)
    (λ h. let e = listed.same_by chunk_cmp chunks_tell a b h in rw e (same_chunk-self b))
    (λ h. let e = same_chunk-true a b h in rw e (listed.own chunk_cmp chunks_tell b))

listed_by : (a : ChunkPos) (xs : List ChunkPos) → list_any (eq_by_cmp chunk_cmp a) xs ≡ list_any (same_chunk a) xs
listed_by a xs = ap (λ (p : ChunkPos → Bool). list_any p xs) (fun_ext (tied a))

in_all : (a : ChunkPos) → is_chunk a ≡ true → list_any (eq_by_cmp chunk_cmp a) all_chunks ≡ true
in_all a l = some_chunk-is (eq_by_cmp chunk_cmp a) a l (listed.own chunk_cmp chunks_tell a)

pub chunks_listed : Lists chunk_cmp is_chunk all_chunks
chunks_listed = record {
  order = chunks_sorted;
  members = λ a. same_answer (list_any (eq_by_cmp chunk_cmp a) all_chunks) (is_chunk a)
      (λ h. let s = some_chunk-gives (eq_by_cmp chunk_cmp a) h in let e = listed.same_by chunk_cmp chunks_tell a s.0 s.2 in rw e s.1)
      (λ l. in_all a l);
}

-- a list in order whose members are the chunks that pass is what the test keeps of all chunks
pub chunk_rows_are : (p : ChunkPos → Bool) (xs : List ChunkPos) → IsStrictlySortedBy chunk_cmp xs → ((s : ChunkPos) → list_any (same_chunk s) xs ≡ p s) → ((s : ChunkPos) → p s ≡ true → is_chunk s ≡ true)
    → (xs ≡ filter p all_chunks) × (length xs ≡ count_by p all_chunks)
chunk_rows_are p xs a h l = listed.rows_are chunk_cmp chunks_tell all_chunks chunks_sorted p xs a (λ s. listed_by s xs ∙ h s) (λ s k. in_all s (l s k))

-- two tests that differ at most at one chunk, which q does not pass
pub chunk_count_change : (p q : ChunkPos → Bool) (a : ChunkPos) → is_chunk a ≡ true → q a ≡ false → ((s : ChunkPos) → same_chunk a s ≡ false → p s ≡ q s) → count_by p all_chunks ≡ cond (p a) 1 0 + count_by q all_chunks
chunk_count_change p q a l z h = listed.count_change chunk_cmp chunks_tell p q a z (λ s k. h s (sym (tied a s) ∙ k)) all_chunks chunks_sorted (in_all a l)
