-- The chunks of a section, row by row.
use Rattle.std.proofs.Common.{◌≡◌, ℕ, ◌<◌, ◌^◌, refl, sym, ◌∙◌, ap, Bool, true, false, ◌&&◌, ◌||◌, inl, inr, List, [], ◌∷◌}
use Rattle.std.specs.Prelude.{ℤ, pos, ◌+ℤ◌, ◌*ℤ◌, ◌<ℤ◌, map}
use Rattle.std.specs.Int.{int_div_euclid}
use Rattle.std.specs.List.{count_by, list_any, filter}
use Rattle.std.specs.List.Sorted.{IsStrictlySortedBy}
use Rattle.std.specs.declared.cmp.Ordering.TheVariants.{Less}
use Rattle.std.specs.Cmp.{both_ways}
use Rattle.std.proofs.lemmas.Bool.{cases_Bool, and_parts}
use Rattle.std.proofs.lemmas.List.Kept.{IsStrictlySortedBy-filter}
use Rattle.std.proofs.lemmas.List.Sums.{length-filter}
use Rattle.fol_model.specs.declared.places.ChunkPos.{ChunkPos}
use Rattle.fol_model.specs.declared.places.SectionPos.{SectionPos}
use Rattle.fol_model.specs.declared.grids.Grid.{Grid}
use Rattle.fol_model.specs.Geometry.{is_chunk, same_chunk, same_section, section_of}
use Rattle.fol_model.specs.Universe.{from, all_chunks, chunk_cmp}
use Rattle.fol_laws.proofs.ChunkOrder.{chunk_rows_are}
use Rattle.fol_laws.proofs.OrderSteps.{less, equal_self}
use Rattle.fol_laws.proofs.SamePlaces.{same_chunk-true, same_chunk-self, same_section-true, same_section-self}
use Rattle.fol_laws.proofs.SortedRows.{plane_sorted, in_row, in_rows, in_row_gives, in_rows_gives}
use Rattle.fol_pages.proofs.Quotients.{in_row_of_quotient, quotient_of_row}
use Rattle.fol_sections.specs.Rows.{chunk_at, rows_of}

same_row : (z x y : ℤ) → x <ℤ y → chunk_cmp (chunk_at x z) (chunk_at y z) ≡ Less
unfolding chunk_cmp
same_row z x y h = let f = equal_self z in let e = less x y h in rw (f, e) refl

later_row : (z w x y : ℤ) → z <ℤ w → chunk_cmp (chunk_at x z) (chunk_at y w) ≡ Less
unfolding chunk_cmp
later_row z w x y h = let e = less z w h in rw e refl

chunk_members : (p : ChunkPos → Bool) (xs : List ChunkPos) (c : ChunkPos) → list_any (same_chunk c) (filter p xs) ≡ (p c && list_any (same_chunk c) xs)
chunk_members p [] c = none (p c)
  where
    none : (b : Bool) → false ≡ (b && false)
    none true = refl
    none false = refl
chunk_members p (x ∷ xs) c = elim (cases_Bool (p x)) [
  | inl e ↦ rw e (ap (λ b. same_chunk c x || b) (chunk_members p xs c) ∙ kept (same_chunk c x) (p c) (list_any (same_chunk c) xs) (λ h. ap p (same_chunk-true c x h) ∙ e))
  | inr e ↦ rw e (chunk_members p xs c ∙ left (same_chunk c x) (p c) (list_any (same_chunk c) xs) (λ h. ap p (same_chunk-true c x h) ∙ e))
]
  where
    kept : (a b l : Bool) → (a ≡ true → b ≡ true) → (a || (b && l)) ≡ (b && (a || l))
    kept true b l h = let e = h refl in rw e refl
    kept false b l h = refl

    left : (a b l : Bool) → (a ≡ true → b ≡ false) → (b && l) ≡ (b && (a || l))
    left true b l h = let e = h refl in rw e refl
    left false b l h = refl

module _ (grid : Grid) (s : SectionPos) where
  module _ (some : 0 < 2 ^ grid.shift) where
    plane_members : (c : ChunkPos) → list_any (same_chunk c) (rows_of chunk_at (s.x *ℤ pos (2 ^ grid.shift)) (s.z *ℤ pos (2 ^ grid.shift)) (2 ^ grid.shift) (2 ^ grid.shift)) ≡ same_section (section_of grid c) s
    unfolding rows_of section_of
    plane_members c =
        let n : ℕ = 2 ^ grid.shift in
        let x0 : ℤ = s.x *ℤ pos (2 ^ grid.shift) in
        let z0 : ℤ = s.z *ℤ pos (2 ^ grid.shift) in
        let row : ℤ → List ChunkPos = λ b. map (λ a. chunk_at a b) (from x0 n) in
        both_ways _ _
        (λ h.
        let z = in_rows_gives (same_chunk c) row z0 n h in
        let x = in_row_gives (same_chunk c) (λ a. chunk_at a z.0) x0 n z.2 in
        let e = same_chunk-true c (chunk_at x.0 z.0) x.2 in
        let i = x.1 in
        let j = z.1 in
        let qx : int_div_euclid c.x (pos n) ≡ s.x = quotient_of_row c.x s.x n i.0 i.1 (ap (λ (q : ChunkPos). q.x) e ∙ i.2) in
        let qz : int_div_euclid c.z (pos n) ≡ s.z = quotient_of_row c.z s.z n j.0 j.1 (ap (λ (q : ChunkPos). q.z) e ∙ j.2) in
        rw (qx, qz) (same_section-self s))
        (λ h.
        let e = same_section-true (record { x = int_div_euclid c.x (pos n); z = int_div_euclid c.z (pos n) }) s h in
        let qx : int_div_euclid c.x (pos n) ≡ s.x = ap (λ (q : SectionPos). q.x) e in
        let qz : int_div_euclid c.z (pos n) ≡ s.z = ap (λ (q : SectionPos). q.z) e in
        let i = in_row_of_quotient c.x n some in
        let j = in_row_of_quotient c.z n some in
        let ex : c.x ≡ x0 +ℤ pos i.0 = rw qx at i.2 in
        let ez : c.z ≡ z0 +ℤ pos j.0 = rw qz at j.2 in
        in_rows (same_chunk c) row z0 c.z n j.0 ez j.1 (in_row (same_chunk c) (λ a. chunk_at a c.z) x0 c.x n i.0 ex i.1 (same_chunk-self c)))

    -- what a test keeps of the section's chunks, as a list and as a count
    pub section_chunks : (p : ChunkPos → Bool) → ((c : ChunkPos) → p c ≡ true → is_chunk c ≡ true)
        → (filter p (rows_of chunk_at (s.x *ℤ pos (2 ^ grid.shift)) (s.z *ℤ pos (2 ^ grid.shift)) (2 ^ grid.shift) (2 ^ grid.shift)) ≡ filter (λ c. p c && same_section (section_of grid c) s) all_chunks)
        × (count_by p (rows_of chunk_at (s.x *ℤ pos (2 ^ grid.shift)) (s.z *ℤ pos (2 ^ grid.shift)) (2 ^ grid.shift) (2 ^ grid.shift)) ≡ count_by (λ c. p c && same_section (section_of grid c) s) all_chunks)
    section_chunks p limits =
        let xs : List ChunkPos = rows_of chunk_at (s.x *ℤ pos (2 ^ grid.shift)) (s.z *ℤ pos (2 ^ grid.shift)) (2 ^ grid.shift) (2 ^ grid.shift) in
        let sorted : IsStrictlySortedBy chunk_cmp xs = unfold rows_of in plane_sorted chunk_cmp (λ z x. chunk_at x z) same_row later_row _ _ _ _ in
        let all = chunk_rows_are (λ c. p c && same_section (section_of grid c) s) (filter p xs) (IsStrictlySortedBy-filter chunk_cmp p xs sorted)
        (λ c. chunk_members p xs c ∙ ap (λ b. p c && b) (plane_members c))
        (λ c h. limits c (and_parts (p c) (same_section (section_of grid c) s) h).0) in
        (all.0, sym (length-filter p xs) ∙ all.1)
