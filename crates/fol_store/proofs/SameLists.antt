-- Lists of chunks in order.
use Rattle.std.proofs.Common.{◌≡◌, not, ◌&&◌, List, sym, ◌∙◌, ap, inl, inr, filter}
use Rattle.std.specs.List.{list_any}
use Rattle.std.specs.List.Sorted.{IsStrictlySortedBy}
use Rattle.std.specs.Ordering.{eq_by_cmp}
use Rattle.std.proofs.Math.Bool.{and_comm}
use Rattle.std.proofs.Math.Path.{fun_ext}
use Rattle.std.proofs.lemmas.Bool.{cases_Bool, true≢false}
use Rattle.std.proofs.lemmas.List.Kept.{IsStrictlySortedBy-filter}
use Rattle.std.proofs.lemmas.Map.Views.{any-filter_same}
use Rattle.fol_model.specs.declared.places.ChunkPos.{ChunkPos}
use Rattle.fol_model.specs.Geometry.{same_chunk}
use Rattle.fol_keyed.proofs.Places.{chunk_cmp_total, chunk_cmp_tells, same_chunk-true, same_chunk-self}
use Rattle.fol_laws.proofs.Listed.{Tells, own, same_by, sorted_same}
use Rattle.fol_chunks.specs.Contents.{is_recorded}
use Rattle.fol_chunks.specs.Order.{chunk_cmp}

-- chunks that tie are the same
ties : (a b : ChunkPos) → eq_by_cmp chunk_cmp a b ≡ same_chunk a b
ties a b = elim (cases_Bool (same_chunk a b)) [
  | inl e ↦ ap (eq_by_cmp chunk_cmp a) (sym (same_chunk-true a b e)) ∙ own chunk_cmp tells a ∙ sym e
  | inr e ↦ elim (cases_Bool (eq_by_cmp chunk_cmp a b)) [
    | inl f ↦ absurd (true≢false (sym (ap (same_chunk a) (sym (same_by chunk_cmp tells a b f)) ∙ same_chunk-self a) ∙ e))
    | inr f ↦ f ∙ sym e
  ]
]
  where
    tells : Tells chunk_cmp
    tells = record { order = chunk_cmp_total; same = chunk_cmp_tells }

-- a list in order is known by its chunks
pub same_list : (xs ys : List ChunkPos) → IsStrictlySortedBy chunk_cmp xs → IsStrictlySortedBy chunk_cmp ys → ((q : ChunkPos) → is_recorded xs q ≡ is_recorded ys q) → xs ≡ ys
same_list xs ys a b h = sorted_same chunk_cmp (record { order = chunk_cmp_total; same = chunk_cmp_tells }) xs ys a b (λ s.
    let e : eq_by_cmp chunk_cmp s ≡ same_chunk s = fun_ext (ties s) in
    ap (λ p. list_any p xs) e ∙ h s ∙ ap (λ p. list_any p ys) (sym e))

-- what is left of a list in order
pub without : (xs gone left : List ChunkPos) → IsStrictlySortedBy chunk_cmp xs → IsStrictlySortedBy chunk_cmp left
    → ((q : ChunkPos) → is_recorded left q ≡ (is_recorded xs q && not (is_recorded gone q))) → left ≡ filter (λ q. not (is_recorded gone q)) xs
without xs gone left a b h = same_list left (filter (λ q. not (is_recorded gone q)) xs) b (IsStrictlySortedBy-filter chunk_cmp (λ q. not (is_recorded gone q)) xs a) (λ q.
    h q ∙ and_comm (is_recorded xs q) (not (is_recorded gone q))
    ∙ sym (any-filter_same (same_chunk q) (λ c. not (is_recorded gone c)) (not (is_recorded gone q)) (λ c e. ap (λ d. not (is_recorded gone d)) (sym (same_chunk-true q c e))) xs))
