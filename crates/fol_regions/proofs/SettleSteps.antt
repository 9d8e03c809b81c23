-- The sections of a region that stay, and the parts into which they fall.
use Rattle.std.proofs.Common.{◌≡◌, ℕ, ◌+◌, ◌≤◌, ◌<◌, refl, sym, ◌∙◌, ap, arith, Bool, true, false, inl, inr, ◌&&◌, List, [], length, get_or}
use Rattle.std.specs.Prelude.{nat_eq, nat_lt, if◌then◌else◌, filter, IsTrue, map, pos as int_pos}
use Rattle.std.specs.List.{All, IsDistinct}
use Rattle.std.specs.List.Sorted.{IsStrictlySortedBy}
use Rattle.std.specs.Ordering.{on}
use Rattle.std.specs.declared.cmp.Ordering.TheVariants.{Less}
use Rattle.std.proofs.lemmas.Bool.{cases_Bool, cases_order, eq-eqb, ne_eqb, eqb-true, and_parts, lt-ltb}
use Rattle.std.proofs.lemmas.List.Kept.{IsStrictlySortedBy-filter}
use Rattle.std.proofs.lemmas.Map.Keys.{Less-from_sorted, sorted_from_all_adjacent}
use Rattle.std.proofs.lemmas.List.{get_or-map, length-map}
use Rattle.fol_model.specs.declared.places.SectionPos.{SectionPos}
use Rattle.fol_model.specs.Geometry.{is_section, same_section, is_among}
use Rattle.fol_model.specs.Universe.{all_sections, count_sections, section_cmp}
use Rattle.fol_laws.proofs.ListCounts.{count_by-mono}
use Rattle.fol_laws.proofs.SectionOrder.{section_members, section_rows_are, sections_sorted}
use Rattle.fol_split.specs.Parts.{ArePartsOf, IsPart, least_of}
use Rattle.fol_split.proofs.Places.{rising-distinct}
use Rattle.fol_model.proofs.PlaceKeys.{section_cmp_total}
use Rattle.fol_split.proofs.Members.{among_at, at_index}
use Rattle.fol_region_tables.specs.Book.{Book, IsBook, owner_of, is_live, rows_of}
use Rattle.fol_region_tables.specs.Parted.{AreRows, Keeps}
use Rattle.fol_region_tables.proofs.BookFacts.{row_most}
use Rattle.fol_regions.proofs.PartNumbers.{first_among, first_least, not_both}
use Rattle.fol_region_tables.proofs.PartedBooks.{row_members, length-filter_le}
use Rattle.fol_region_tables.proofs.SplitSteps.{placed_some}

abbrev origin : SectionPos
origin = record { x = int_pos 0; z = int_pos 0 }

-- ---- the sections that stay
module _ (b : Book) (t : ℕ) (h : IsBook b) (live : is_live b t ≡ true) (p : SectionPos → Bool) (living : List SectionPos) (is : living ≡ filter p (rows_of b t)) where
  pos : 0 < t
  pos = (h.given t live).0

  living_members : (s : SectionPos) → is_among living s ≡ (p s && nat_eq (owner_of b s) t)
  living_members s = ap (λ xs. is_among xs s) is ∙ section_members p (rows_of b t) s ∙ ap (λ k. p s && k) (row_members b t pos h s)

  pub living_owner : (s : SectionPos) → is_among living s ≡ true → owner_of b s ≡ t
  living_owner s e = eqb-true _ _ (and_parts (p s) (nat_eq (owner_of b s) t) (sym (living_members s) ∙ e)).1

  pub living_limits : (s : SectionPos) → is_among living s ≡ true → is_section s ≡ true
  living_limits s e = h.limits s (let o = living_owner s e in let q = pos in omega arith)

  pub living_sorted : IsStrictlySortedBy section_cmp living
  living_sorted =
      let r = h.rows t pos in
      rw (is, r) (IsStrictlySortedBy-filter section_cmp p (filter (λ s. nat_eq (owner_of b s) t) all_sections) (IsStrictlySortedBy-filter section_cmp (λ s. nat_eq (owner_of b s) t) all_sections sections_sorted))

  pub living_distinct : IsDistinct same_section living
  living_distinct = rising-distinct living (λ k d l. Less-from_sorted section_cmp living k (k + 1) d living_sorted (omega arith) l)

  pub living_within : All (λ s. IsTrue (is_section s)) living
  living_within = λ k d l. living_limits (get_or living k d) (among_at living k d l)

  pub row_few : count_sections (λ s. nat_lt 0 (owner_of b s)) ≤ 16384 → length (rows_of b t) ≤ 16384
  row_few few = row_most b t h pos few

  pub living_few : count_sections (λ s. nat_lt 0 (owner_of b s)) ≤ 16384 → length living ≤ 16384
  living_few few = omega (arith, ap length is, length-filter_le p (rows_of b t), row_few few)

  -- ---- after the others left
  module _ (mid : Book) (m : IsBook mid) (keeps : Keeps b mid t living) where
    mid_owner : (s : SectionPos) → owner_of mid s ≡ (if nat_eq (owner_of b s) t then (if is_among living s then t else 0) else owner_of b s)
    mid_owner s = ap (λ f. f s) keeps.owner

    pub mid_few : count_sections (λ s. nat_lt 0 (owner_of b s)) ≤ 16384 → count_sections (λ s. nat_lt 0 (owner_of mid s)) ≤ 16384
    mid_few few = omega (
      arith,
      few,
      count_by-mono (λ s. nat_lt 0 (owner_of mid s)) (λ s. nat_lt 0 (owner_of b s)) (λ s e.
          let o = mid_owner s in
          elim (cases_Bool (nat_eq (owner_of b s) t)) [
            | inl k ↦ let x : owner_of b s ≡ t = eqb-true _ _ k in let q = pos in lt-ltb 0 _ (omega arith)
            | inr k ↦ let z : owner_of mid s ≡ owner_of b s = rw k at o in rw z at e
          ]) all_sections,
    )

    mid_members : (s : SectionPos) → is_among (rows_of mid t) s ≡ is_among living s
    mid_members s =
        let o = mid_owner s in
        row_members mid t pos m s ∙ elim (cases_Bool (nat_eq (owner_of b s) t)) [
          | inl k ↦ elim (cases_Bool (is_among living s)) [
            | inl e ↦ let z : owner_of mid s ≡ t = rw (k, e) at o in rw (z, e) (eq-eqb t t refl)
            | inr e ↦ let z : owner_of mid s ≡ 0 = rw (k, e) at o in rw (z, e) (ne_eqb 0 t (λ x. absurd (let q = pos in omega arith)))
          ]
          | inr k ↦ let z : owner_of mid s ≡ owner_of b s = rw k at o in
              let l = living_members s in
              let y : is_among living s ≡ false = rw k at l ∙ elim (cases_Bool (p s)) [ inl x ↦ rw x refl | inr x ↦ rw x refl ] in
              rw (z, k, y) refl
        ]

    module _ (merge : ℕ) (found : List (List SectionPos)) (are : ArePartsOf living merge found) where
      part_is : (i : ℕ) → i < length found → IsPart living merge (get_or found i [])
      part_is i l = are.classes i [] l

      first_in : (i : ℕ) (l : i < length found) → is_among (get_or found i []) (least_of (get_or found i [])) ≡ true
      first_in i l = first_among (get_or found i []) (part_is i l).some

      in_living : (i : ℕ) (s : SectionPos) → i < length found → is_among (get_or found i []) s ≡ true → is_among living s ≡ true
      in_living i s l e = (((part_is i l).whole (least_of (get_or found i [])) s (first_in i l)).0 e).0

      -- a section of two parts: each part has the other's least section
      shared : (i j : ℕ) (s : SectionPos) (l : i < length found) (k : j < length found) → is_among (get_or found i []) s ≡ true → is_among (get_or found j []) s ≡ true
          → is_among (get_or found i []) (least_of (get_or found j [])) ≡ true
      shared i j s l k e f = ((part_is i l).whole s (least_of (get_or found j [])) e).1 (((part_is j k).whole s (least_of (get_or found j [])) f).0 (first_in j k))

      not_below : (i j : ℕ) (s : SectionPos) → i < j → (l : i < length found) (k : j < length found) → is_among (get_or found i []) s ≡ true → is_among (get_or found j []) s ≡ true → ⊥
      not_below i j s low l k e f =
          let a : SectionPos = least_of (get_or found i []) in
          let c : SectionPos = least_of (get_or found j []) in
          let less : section_cmp a c ≡ Less = Less-from_sorted (on least_of section_cmp) found i j [] are.by_least low k in
          elim (first_least (get_or found j []) a (part_is j k).in_order (shared j i s k l f e)) [
            | inl same ↦ let z : section_cmp c c ≡ Less = rw same at less in not_both c c z z
            | inr more ↦ not_both a c less more
          ]

      pub parts_rows : AreRows (rows_of mid t) found
      parts_rows = record {
        some = λ i l. (part_is i l).some;
        rows = λ i l. (section_rows_are (is_among (get_or found i [])) (get_or found i []) (part_is i l).in_order (λ s. refl) (λ s e. living_limits s (in_living i s l e))).0;
        within = λ i s l e. mid_members s ∙ in_living i s l e;
        cover = λ s e. placed_some found s (are.cover s (sym (mid_members s) ∙ e));
        apart = λ i j s l k e f. elim (cases_order i j) [
          | inl x ↦ x
          | inr y ↦ elim y [
            | inl low ↦ absurd (not_below i j s low l k e f)
            | inr high ↦ absurd (not_below j i s high k l f e)
          ]
        ];
      }

  -- ---- how many parts there are
  module _ (merge : ℕ) (found : List (List SectionPos)) (are : ArePartsOf living merge found) where
    a_part : (i : ℕ) → i < length found → IsPart living merge (get_or found i [])
    a_part i l = are.classes i [] l

    least_in : (i : ℕ) (l : i < length found) → is_among living (least_of (get_or found i [])) ≡ true
    least_in i l = (((a_part i l).whole (least_of (get_or found i [])) (least_of (get_or found i [])) (first_among (get_or found i []) (a_part i l).some)).0 (first_among (get_or found i []) (a_part i l).some)).0

    leasts : List SectionPos
    leasts = map least_of found

    leasts_sorted : IsStrictlySortedBy section_cmp leasts
    unfolding leasts
    leasts_sorted = sorted_from_all_adjacent section_cmp_total (map least_of found) origin (λ k l.
        let n = length-map found least_of in
        rw (get_or-map least_of found k [] origin (omega arith), get_or-map least_of found (k + 1) [] origin (omega arith))
        (Less-from_sorted (on least_of section_cmp) found k (k + 1) [] are.by_least (omega arith) (omega arith)))

    least_member : (s : SectionPos) → is_among leasts s ≡ true → is_among living s ≡ true
    unfolding leasts
    least_member s e =
        let k = at_index (map least_of found) s e in
        let n = length-map found least_of in
        let low : k.0 < length found = omega (arith, k.1) in
        let same : least_of (get_or found k.0 []) ≡ s = sym (get_or-map least_of found k.0 [] origin low) ∙ k.2 origin in
        rw (sym same) (least_in k.0 low)

    pub parts_few : length found ≤ length living
    unfolding leasts
    parts_few =
        let a = section_rows_are (is_among leasts) leasts leasts_sorted (λ s. refl) (λ s e. living_limits s (least_member s e)) in
        let c = section_rows_are (is_among living) living living_sorted (λ s. refl) (λ s e. living_limits s e) in
        omega (arith, a.1, c.1, length-map found least_of, count_by-mono (is_among leasts) (is_among living) least_member all_sections)

    -- where there is a part, some section stays
    pub living_some : 0 < length found → 0 < length living
    living_some l = omega (arith, parts_few)
