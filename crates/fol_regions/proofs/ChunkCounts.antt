-- The loaded chunks of a region, counted and listed section by section.
use Rattle.std.proofs.Common.{◌≡◌, ℕ, zero, suc, ◌+◌, ◌≤◌, ◌<◌, refl, sym, ◌∙◌, ap, arith, Bool, true, false, cond, inl, inr, ◌&&◌, ◌||◌, List, [], ◌∷◌, ◌++◌, length, get_or, take, subst}
use Rattle.std.specs.Prelude.{nat_eq, nat_lt, count_by, filter, flat_map, sum_by}
use Rattle.std.specs.List.Sorted.{IsPermutation, IsSortedBy, IsStrictlySortedBy}
use Rattle.std.specs.Ordering.{is_lt}
use Rattle.std.specs.declared.cmp.Ordering.TheVariants.{Less}
use Rattle.std.proofs.lemmas.Bool.{cases_Bool}
use Rattle.std.proofs.lemmas.List.{take_all}
use Rattle.std.proofs.lemmas.List.Kept.{IsStrictlySortedBy-filter}
use Rattle.std.proofs.lemmas.List.Sorted.{IsPermutation-append_left, IsPermutation-refl, IsPermutation-sym, IsPermutation-trans}
use Rattle.std.proofs.lemmas.List.Sums.{sum_by_more}
use Rattle.std.proofs.lemmas.Map.Keys.{Less-from_sorted}
use Rattle.std.proofs.Math.Path.{fun_ext}
use Rattle.fol_model.specs.declared.places.ChunkPos.{ChunkPos}
use Rattle.fol_model.specs.declared.places.SectionPos.{SectionPos}
use Rattle.fol_model.specs.Geometry.{same_section, section_of, is_among}
use Rattle.fol_model.specs.Outputs.{is_chunk_of, chunk_count}
use Rattle.fol_model.specs.Universe.{all_chunks, all_sections, section_cmp, chunk_cmp}
use Rattle.fol_laws.proofs.ChunkOrder.{chunks_tell, chunks_sorted}
use Rattle.fol_laws.proofs.SamePlaces.{same_section-true}
use Rattle.fol_laws.proofs.SectionOrder.{sections_sorted}
use Rattle.fol_sections.specs.Table.{holds_of, is_loaded_chunk_of, loaded_count}
use Rattle.fol_sections.specs.Table as sections
use Rattle.fol_sections.proofs.HeldChunks.{flat_map_next}
use Rattle.fol_split.proofs.Places.{same_section-swap}
use Rattle.fol_region_tables.specs.Book.{Book, IsBook, owner_of, rows_of}
use Rattle.fol_regions.specs.Released.{grid_of}
use Rattle.fol_region_tables.proofs.Among.{among_more}
use Rattle.fol_region_tables.proofs.Chosen.{filter_like, none_kept}
use Rattle.fol_regions.proofs.InOrder.{filter_either, sorted_is}
use Rattle.fol_regions.proofs.PartNumbers.{not_both}
use Rattle.fol_region_tables.proofs.PartedBooks.{row_members}
use Rattle.fol_region_tables.proofs.PartingSteps.{count_parts}

-- loaded, and in one of the sections
abbrev pub is_loaded_among : sections.Table → List SectionPos → ChunkPos → Bool
is_loaded_among s xs c = nat_lt 0 (holds_of s c) && is_among xs (section_of s.grid c)

-- a section of a rising list is not among those before it
pub fresh_section : (xs : List SectionPos) → IsStrictlySortedBy section_cmp xs → (i : ℕ) (d : SectionPos) → i < length xs → is_among (take i xs) (get_or xs i d) ≡ false
fresh_section xs h i d l = go i (omega arith)
  where
    suc_one : (n : ℕ) → suc n ≡ n + 1
    suc_one n = omega arith

    go : (j : ℕ) → j ≤ i → is_among (take j xs) (get_or xs i d) ≡ false
    go zero k = refl
    go (suc j) k =
        let a = get_or xs j d in
        let b = get_or xs i d in
        let less : section_cmp a b ≡ Less = Less-from_sorted section_cmp xs j i d h (omega (arith, k)) l in
        let before : is_among (take j xs) b ≡ false = go j (omega (arith, k)) in
        let n : same_section a b ≡ false = elim (cases_Bool (same_section a b)) [
          | inl e ↦ let same : a ≡ b = same_section-true a b e in let self : section_cmp b b ≡ Less = ap (λ x. section_cmp x b) (sym same) ∙ less in absurd (not_both b b self self)
          | inr e ↦ e
        ] in
        ap (λ m. is_among (take m xs) b) (suc_one j) ∙ among_more xs j d b (omega (arith, k, l)) ∙ (λ m. before m || n m)

-- one more section's chunks come, and no chunk twice
loaded_more : (s : sections.Table) (xs : List SectionPos) (i : ℕ) (d : SectionPos) → i < length xs → is_among (take i xs) (get_or xs i d) ≡ false
    → (c : ChunkPos) → cond (is_loaded_among s (take (i + 1) xs) c) 1 0 ≡ cond (is_loaded_among s (take i xs) c) 1 0 + cond (is_loaded_chunk_of s (get_or xs i d) c) 1 0
unfolding is_loaded_chunk_of
loaded_more s xs i d l fresh c =
    let q : SectionPos = section_of s.grid c in
    let m = among_more xs i d q l in
    elim (cases_Bool (nat_lt 0 (holds_of s c))) [
      | inl h ↦ elim (cases_Bool (same_section q (get_or xs i d))) [
        | inl e ↦
            let same : q ≡ get_or xs i d = same_section-true q (get_or xs i d) e in
            let f : is_among (take i xs) q ≡ false = rw same fresh in
            let g : same_section (get_or xs i d) q ≡ true = same_section-swap (get_or xs i d) q ∙ e in
            let n : is_among (take (i + 1) xs) q ≡ true = rw (f, g) at m in
            rw (h, n, f, e) refl
        | inr e ↦
            let g : same_section (get_or xs i d) q ≡ false = same_section-swap (get_or xs i d) q ∙ e in
            let n : is_among (take (i + 1) xs) q ≡ is_among (take i xs) q = m ∙ rw g (elim (cases_Bool (is_among (take i xs) q)) [ inl v ↦ rw v refl | inr v ↦ rw v refl ]) in
            rw (h, n, e) (omega arith)
      ]
      | inr h ↦ rw h refl
    ]

pub counted_more : (s : sections.Table) (xs : List SectionPos) (i : ℕ) (d : SectionPos) → i < length xs → is_among (take i xs) (get_or xs i d) ≡ false
    → count_by (is_loaded_among s (take (i + 1) xs)) all_chunks ≡ count_by (is_loaded_among s (take i xs)) all_chunks + loaded_count s (get_or xs i d)
unfolding loaded_count
counted_more s xs i d l fresh = count_parts (is_loaded_among s (take (i + 1) xs)) (is_loaded_among s (take i xs)) (is_loaded_chunk_of s (get_or xs i d)) (loaded_more s xs i d l fresh) all_chunks

-- what was listed, and then one more section's chunks
listed_more : (s : sections.Table) (xs : List SectionPos) (i : ℕ) (d : SectionPos) (out : List ChunkPos) → i < length xs → is_among (take i xs) (get_or xs i d) ≡ false
    → IsPermutation out (filter (is_loaded_among s (take i xs)) all_chunks) → IsPermutation (out ++ filter (is_loaded_chunk_of s (get_or xs i d)) all_chunks) (filter (is_loaded_among s (take (i + 1) xs)) all_chunks)
listed_more s xs i d out l fresh h =
    let more = filter (is_loaded_chunk_of s (get_or xs i d)) all_chunks in
    let before = filter (is_loaded_among s (take i xs)) all_chunks in
    IsPermutation-trans (out ++ more) (before ++ more) (filter (is_loaded_among s (take (i + 1) xs)) all_chunks) (IsPermutation-append_left more out before h)
    (filter_either (is_loaded_among s (take (i + 1) xs)) (is_loaded_among s (take i xs)) (is_loaded_chunk_of s (get_or xs i d)) (loaded_more s xs i d l fresh) all_chunks)

-- nothing is listed yet
listed_none : (s : sections.Table) (xs : List SectionPos) → filter (is_loaded_among s (take 0 xs)) all_chunks ≡ []
listed_none s xs = none_kept (is_loaded_among s (take 0 xs)) (λ c. elim (cases_Bool (nat_lt 0 (holds_of s c))) [ inl e ↦ rw e refl | inr e ↦ rw e refl ]) all_chunks

-- the chunks of a rising list, section by section, are those of its sections in another order
pub listed_whole : (s : sections.Table) (xs : List SectionPos) (d : SectionPos) → IsStrictlySortedBy section_cmp xs
    → IsPermutation (flat_map (λ q. filter (is_loaded_chunk_of s q) all_chunks) xs) (filter (is_loaded_among s xs) all_chunks)
listed_whole s xs d h = subst (λ (ys : List SectionPos). IsPermutation (flat_map listed ys) (filter (is_loaded_among s ys) all_chunks)) (take_all (length xs) xs (omega arith)) (go (length xs) (omega arith))
  where
    listed : SectionPos → List ChunkPos
    listed q = filter (is_loaded_chunk_of s q) all_chunks

    go : (i : ℕ) → i ≤ length xs → IsPermutation (flat_map listed (take i xs)) (filter (is_loaded_among s (take i xs)) all_chunks)
    go zero l = let none = listed_none s xs in rw none (IsPermutation-refl [])
    go (suc i) l =
        let e : suc i ≡ i + 1 = omega arith in
        let next = flat_map_next listed xs i d (omega arith) in
        rw (e, next) (listed_more s xs i d (flat_map listed (take i xs)) (omega arith) (fresh_section xs h i d (omega arith)) (go i (omega arith)))

-- what was listed, after a sort
pub listed_all : (s : sections.Table) (xs : List SectionPos) (out sorted : List ChunkPos) → IsPermutation out (filter (is_loaded_among s xs) all_chunks)
    → IsPermutation out sorted → IsSortedBy (λ a b. is_lt (chunk_cmp a b)) sorted → sorted ≡ filter (is_loaded_among s xs) all_chunks
listed_all s xs out sorted whole moved up =
    sorted_is chunk_cmp chunks_tell sorted (filter (is_loaded_among s xs) all_chunks) up (IsStrictlySortedBy-filter chunk_cmp (is_loaded_among s xs) all_chunks chunks_sorted)
    (IsPermutation-trans sorted out (filter (is_loaded_among s xs) all_chunks) (IsPermutation-sym out sorted moved) whole)

pub counted_all : (s : sections.Table) (b : Book) (r i : ℕ) → IsBook b → 0 < r → length (rows_of b r) ≤ i → count_by (is_loaded_among s (take i (rows_of b r))) all_chunks ≡ chunk_count (grid_of s b) r
unfolding grid_of
counted_all s b r i h pos l =
    ap (λ xs. count_by (is_loaded_among s xs) all_chunks) (take_all i (rows_of b r) l)
    ∙ ap (λ p. count_by p all_chunks) (fun_ext (λ c. ap (λ v. nat_lt 0 (holds_of s c) && v) (row_members b r pos h (section_of s.grid c))))

counted_none : (s : sections.Table) (xs : List SectionPos) → count_by (is_loaded_among s (take 0 xs)) all_chunks ≡ 0
counted_none s xs = none_at all_chunks
  where
    none_at : (cs : List ChunkPos) → count_by (is_loaded_among s (take 0 xs)) cs ≡ 0
    none_at [] = refl
    none_at (c ∷ cs) = elim (cases_Bool (nat_lt 0 (holds_of s c))) [ inl e ↦ rw e (none_at cs) | inr e ↦ rw e (none_at cs) ]

pub row_rising : (b : Book) (r : ℕ) → IsBook b → 0 < r → IsStrictlySortedBy section_cmp (rows_of b r)
row_rising b r h pos = rw (h.rows r pos) (IsStrictlySortedBy-filter section_cmp (λ s. nat_eq (owner_of b s) r) all_sections sections_sorted)

pub counted_rows : (s : sections.Table) (b : Book) (r : ℕ) → IsBook b → 0 < r → count_by (is_loaded_among s (rows_of b r)) all_chunks ≡ chunk_count (grid_of s b) r
counted_rows s b r h pos = ap (λ xs. count_by (is_loaded_among s xs) all_chunks) (sym (take_all (length (rows_of b r)) (rows_of b r) (omega arith))) ∙ counted_all s b r (length (rows_of b r)) h pos (omega arith)

pub listed_rows : (s : sections.Table) (b : Book) (r : ℕ) → IsBook b → 0 < r → filter (is_loaded_among s (rows_of b r)) all_chunks ≡ filter (is_chunk_of (grid_of s b) r) all_chunks
unfolding grid_of
listed_rows s b r h pos = filter_like (is_loaded_among s (rows_of b r)) (is_chunk_of (grid_of s b) r) (λ c. ap (λ v. nat_lt 0 (holds_of s c) && v) (row_members b r pos h (section_of s.grid c))) all_chunks

-- the chunks of a rising list, section by section
pub counted_sum : (s : sections.Table) (xs : List SectionPos) (d : SectionPos) → IsStrictlySortedBy section_cmp xs → sum_by (loaded_count s) xs ≡ count_by (is_loaded_among s xs) all_chunks
counted_sum s xs d h = ap (sum_by (loaded_count s)) (sym (all (length xs) (omega arith))) ∙ go (length xs) (omega arith) ∙ ap (λ ys. count_by (is_loaded_among s ys) all_chunks) (all (length xs) (omega arith))
  where
    all : (i : ℕ) → length xs ≤ i → take i xs ≡ xs
    all i l = take_all i xs l

    go : (i : ℕ) → i ≤ length xs → sum_by (loaded_count s) (take i xs) ≡ count_by (is_loaded_among s (take i xs)) all_chunks
    go zero l = sym (counted_none s xs)
    go (suc i) l =
        let e : suc i ≡ i + 1 = omega arith in
        let before = go i (omega arith) in
        let sum = sum_by_more (loaded_count s) xs i d (omega arith) in
        let count = counted_more s xs i d (omega arith) (fresh_section xs h i d (omega arith)) in
        rw e (omega (arith, before, sum, count))
