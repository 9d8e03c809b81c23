-- What the numbers of loaded chunks say of the margin.
use Rattle.std.proofs.Common.{◌≡◌, ℕ, ◌+◌, ◌≤◌, refl, sym, ◌∙◌, ap, arith, Bool, true, false, cond, not, ◌&&◌, ◌||◌, inl, inr, List, [], ◌∷◌}
use Rattle.std.specs.Prelude.{ℤ, nat_abs, nat_lt, nat_le, is_some, Some, None, Option}
use Rattle.std.specs.List.{count_by, list_any, filter}
use Rattle.std.specs.Option.{unwrap_or}
use Rattle.std.specs.Cmp.{both_ways}
use Rattle.std.proofs.Math.Path.{fun_ext}
use Rattle.std.proofs.lemmas.Bool.{cases_Bool, and_parts, and_from, true≢false, leb-true, ltb-true, lt-ltb}
use Rattle.std.proofs.lemmas.List.Kept.{IsStrictlySortedBy-filter}
use Rattle.std.proofs.lemmas.List.Sums.{count_by-le-length, length-filter}
use Rattle.fol_model.specs.declared.places.ChunkPos.{ChunkPos}
use Rattle.fol_model.specs.declared.places.SectionPos.{SectionPos}
use Rattle.fol_model.specs.declared.grids.Grid.{Grid}
use Rattle.fol_model.specs.Geometry.{distance, is_section, is_within, section_of, same_section}
use Rattle.fol_model.specs.Universe.{all_chunks, all_sections, count_sections, section_cmp, some_chunk, square}
use Rattle.fol_laws.proofs.ListCounts.{count_by-cons, count_by-some, list_any-gives}
use Rattle.fol_laws.proofs.Distances.{distance_swap, self_distance}
use Rattle.fol_laws.proofs.SamePlaces.{same_section-true, same_section-self}
use Rattle.fol_laws.proofs.AllSections.{some_chunk-is, count_sections-is}
use Rattle.fol_laws.proofs.SectionOrder.{section_rows_are, section_members, square_members, square_sorted}
use Rattle.fol_laws.proofs.FloorDivision.{around_in_limits}
use Rattle.fol_sections.specs.Places.{count_at}
use Rattle.fol_sections.specs.Pages.{chunks_at, is_here, near_at, no_counts}
use Rattle.fol_sections.specs.declared.pages.Counts.{Counts}
use Rattle.fol_sections.specs.declared.pages.Page.{Page}
use Rattle.fol_sections.specs.Table.{is_filled_in}
use Rattle.fol_sections.specs.Kept.{IsKept, is_held, is_loaded_in}
use Rattle.fol_sections.proofs.Lengths.{length-square}

-- some element passes just where the count is not 0
pub any-count : {X : Type 0} (p : X → Bool) (xs : List X) → list_any p xs ≡ nat_lt 0 (count_by p xs)
any-count p [] = refl
any-count p (x ∷ xs) = elim (cases_Bool (p x)) [
  | inl e ↦
      let m : count_by p (x ∷ xs) ≡ 1 + count_by p xs = count_by-cons p x xs ∙ ap (λ b. cond b 1 0 + count_by p xs) e in
      ap (λ b. b || list_any p xs) e ∙ sym (lt-ltb 0 (count_by p (x ∷ xs)) (omega arith))
  | inr e ↦
      let m : count_by p (x ∷ xs) ≡ 0 + count_by p xs = count_by-cons p x xs ∙ ap (λ b. cond b 1 0 + count_by p xs) e in
      let k : count_by p xs ≡ count_by p (x ∷ xs) = omega arith in
      ap (λ b. b || list_any p xs) e ∙ any-count p xs ∙ ap (nat_lt 0) k
]

pub count-like : {X : Type 0} (p q : X → Bool) (xs : List X) → ((x : X) → p x ≡ q x) → count_by p xs ≡ count_by q xs
count-like p q xs h = ap (λ f. count_by f xs) (fun_ext h)

-- those that pass one test or another one
pub count-or : {X : Type 0} (p w : X → Bool) (xs : List X) → count_by (λ x. p x || w x) xs ≡ count_by p xs + count_by (λ x. not (p x) && w x) xs
count-or p w [] = refl
count-or p w (x ∷ xs) = omega (arith, count_by-cons (λ x. p x || w x) x xs, count_by-cons p x xs, count_by-cons (λ x. not (p x) && w x) x xs, count-or p w xs, one (p x) (w x))
  where
    one : (a b : Bool) → cond (a || b) 1 0 ≡ cond a 1 0 + cond (not a && b) 1 0
    one true b = refl
    one false true = refl
    one false false = refl

module _ (grid : Grid) (holds : List ((ℤ × ℤ) × ℕ)) (pages : List ((ℤ × ℤ) × Page)) (count : ℕ) (kept : IsKept grid holds pages count) where
  -- a section holds a loaded chunk just where its number is not 0
  pub filled-is : (s : SectionPos) → is_filled_in grid (count_at holds) s ≡ nat_lt 0 (chunks_at pages s)
  unfolding is_filled_in
  filled-is s = any-count (is_loaded_in grid holds s) all_chunks ∙ ap (nat_lt 0) (sym (kept.chunks s))

  -- and such a section is present
  pub filled-here : (s : SectionPos) → nat_lt 0 (chunks_at pages s) ≡ true → is_here pages s ≡ true
  unfolding chunks_at is_here
  filled-here s h = there _ h
    where
      there : (o : Option Counts) → nat_lt 0 (unwrap_or o no_counts).loaded ≡ true → is_some o ≡ true
      there None e = absurd (true≢false (sym e))
      there (Some n) e = refl

  -- the number of a section is how many sections near it hold a loaded chunk
  pub near-is : (s : SectionPos) → near_at pages s ≡ count_sections (λ q. is_filled_in grid (count_at holds) q && is_within s grid.create q)
  near-is s = kept.near s ∙ count-like _ _ all_sections (λ q. ap (λ b. b && is_within s grid.create q) (sym (filled-is q)))

  -- and at most the area
  pub near_few : (s : SectionPos) → near_at pages s ≤ 289
  near_few s =
      let p : SectionPos → Bool = λ q. nat_lt 0 (chunks_at pages q) in
      let rows = section_rows_are (λ q. p q && is_within s grid.create q) (filter p (square s grid.create))
      (IsStrictlySortedBy-filter section_cmp p (square s grid.create) (square_sorted s grid.create))
      (λ q. section_members p (square s grid.create) q ∙ ap (λ b. p q && b) (square_members s grid.create q))
      (λ q h. kept.section_limits q (filled-here q (and_parts (p q) (is_within s grid.create q) h).0)) in
      omega (arith, kept.near s, rows.1, length-filter p (square s grid.create), count_by-le-length p (square s grid.create), length-square s grid.create kept.numbers.create_high)

  section_in_limits : (c : ChunkPos) → is_held holds c ≡ true → is_section (section_of grid c) ≡ true
  section_in_limits c h = around_in_limits grid c (section_of grid c) kept.numbers (kept.chunk_limits c h) (omega (arith, self_distance (section_of grid c)))

  -- a section is in the margin just where some section near it holds a loaded chunk
  pub margin-is : (s : SectionPos) → some_chunk (λ c. is_held holds c && is_within (section_of grid c) grid.create s)
      ≡ nat_lt 0 (count_sections (λ q. is_filled_in grid (count_at holds) q && is_within s grid.create q))
  unfolding is_filled_in
  margin-is s = both_ways _ _
      (λ h.
      let c = list_any-gives (λ c. is_held holds c && is_within (section_of grid c) grid.create s) all_chunks h in
      let p = and_parts (is_held holds c.0) (is_within (section_of grid c.0) grid.create s) c.1 in
      let limits = kept.chunk_limits c.0 p.0 in
      let near : is_within s grid.create (section_of grid c.0) ≡ true = ap (λ d. nat_le d grid.create) (distance_swap s (section_of grid c.0)) ∙ p.1 in
      let filled : some_chunk (λ q. is_held holds q && same_section (section_of grid q) (section_of grid c.0)) ≡ true =
      some_chunk-is (λ q. is_held holds q && same_section (section_of grid q) (section_of grid c.0)) c.0 limits (and_from _ _ p.0 (same_section-self (section_of grid c.0))) in
      lt-ltb _ _ (count_sections-is (λ q. some_chunk (λ c. is_held holds c && same_section (section_of grid c) q) && is_within s grid.create q) (section_of grid c.0)
      (section_in_limits c.0 p.0) (and_from _ _ filled near)))
      (λ h.
      let q = count_by-some (λ q. some_chunk (λ c. is_held holds c && same_section (section_of grid c) q) && is_within s grid.create q) all_sections (ltb-true _ _ h) in
      let p = and_parts (some_chunk (λ c. is_held holds c && same_section (section_of grid c) q.0)) (is_within s grid.create q.0) q.1 in
      let c = list_any-gives (λ c. is_held holds c && same_section (section_of grid c) q.0) all_chunks p.0 in
      let r = and_parts (is_held holds c.0) (same_section (section_of grid c.0) q.0) c.1 in
      let e = same_section-true (section_of grid c.0) q.0 r.1 in
      let near : is_within (section_of grid c.0) grid.create s ≡ true = ap (λ d. nat_le d grid.create) (distance_swap (section_of grid c.0) s ∙ ap (distance s) e) ∙ p.1 in
      some_chunk-is (λ c. is_held holds c && is_within (section_of grid c) grid.create s) c.0 (kept.chunk_limits c.0 r.0) (and_from _ _ r.0 near))

  -- a section near a loaded chunk's has a number above 0
  pub near_home : (c : ChunkPos) → is_held holds c ≡ true → (s : SectionPos) → cond (is_within (section_of grid c) grid.create s) 1 0 ≤ near_at pages s
  unfolding is_filled_in
  near_home c h s = elim (cases_Bool (is_within (section_of grid c) grid.create s)) [
    | inr e ↦ rw e (omega arith)
    | inl e ↦
        let filled : nat_lt 0 (chunks_at pages (section_of grid c)) ≡ true = sym (filled-is (section_of grid c)) ∙ loaded c h in
        let near : is_within s grid.create (section_of grid c) ≡ true = ap (λ d. nat_le d grid.create) (distance_swap s (section_of grid c)) ∙ e in
        let some = count_sections-is (λ q. nat_lt 0 (chunks_at pages q) && is_within s grid.create q) (section_of grid c) (section_in_limits c h) (and_from _ _ filled near) in
        rw e (omega (arith, some, kept.near s))
  ]
    where
      loaded : (c : ChunkPos) → is_held holds c ≡ true → is_filled_in grid (count_at holds) (section_of grid c) ≡ true
      loaded c h = some_chunk-is (λ q. is_held holds q && same_section (section_of grid q) (section_of grid c)) c (kept.chunk_limits c h) (and_from _ _ h (same_section-self (section_of grid c)))

-- a section within the limits
pub section_near : (s : SectionPos) → is_section s ≡ true → (nat_abs s.x ≤ 1000008) × (nat_abs s.z ≤ 1000008)
unfolding is_section
section_near s h = let p = and_parts (nat_le (nat_abs s.x) 1000008) (nat_le (nat_abs s.z) 1000008) h in (leb-true _ _ p.0, leb-true _ _ p.1)
