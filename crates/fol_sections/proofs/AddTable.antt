-- The answer to an added hold, by what a table keeps.
use Rattle.std.proofs.Common.{◌≡◌, ℕ, ◌+◌, ◌≤◌, ◌<◌, refl, sym, ◌∙◌, ap, arith, Bool, true, false, not, ◌&&◌, ◌||◌, inl, inr, List, [], length}
use Rattle.std.specs.Prelude.{ℤ, nat_abs, nat_eq, nat_lt}
use Rattle.std.specs.List.{count_by, filter}
use Rattle.std.proofs.lemmas.Bool.{and_parts, leb-true, le-leb, lt-ltb, le-ltb, eq-eqb, ne_eqb, or_cases}
use Rattle.std.proofs.lemmas.List.Sums.{length-filter}
use Rattle.std.proofs.lemmas.List.Kept.{IsStrictlySortedBy-filter}
use Rattle.fol_model.specs.declared.places.ChunkPos.{ChunkPos}
use Rattle.fol_model.specs.declared.places.SectionPos.{SectionPos}
use Rattle.fol_model.specs.declared.grids.Grid.{Grid}
use Rattle.fol_model.specs.Geometry.{is_chunk, is_section, is_within, section_of, is_among}
use Rattle.fol_model.specs.Universe.{all_sections, count_sections, section_cmp, square}
use Rattle.fol_laws.proofs.Distances.{self_distance}
use Rattle.fol_laws.proofs.FloorDivision.{around_in_limits}
use Rattle.fol_laws.proofs.SectionOrder.{section_rows_are, section_members, square_members, square_sorted}
use Rattle.fol_sections.specs.declared.answers.Added.TheVariants.{Counted, Filled, Full}
use Rattle.fol_sections.specs.Pages.{is_here}
use Rattle.fol_sections.specs.declared.pages.Page.{Page}
use Rattle.fol_sections.specs.Table.{added, is_full_for, is_missing, missing_count, present_count}
use Rattle.fol_sections.specs.Kept.{IsKept}
use Rattle.fol_sections.proofs.DeadSteps.{square_none}
use Rattle.fol_sections.proofs.Margins.{section_near}
use Rattle.fol_sections.proofs.Tables.{table, table-presence}

-- where all sections within a radius are present, none of them is missing
pub none_missing : (pages : List ((ℤ × ℤ) × Page)) (n : SectionPos) (r : ℕ) → ((s : SectionPos) → is_within n r s ≡ true → is_here pages s ≡ true) → filter (λ s. not (is_here pages s)) (square n r) ≡ []
none_missing pages n r here = square_none (λ s. not (is_here pages s)) n r (λ s k. ap not (here s k))

-- a number of missing sections, by the list of them
pub counted : (pages : List ((ℤ × ℤ) × Page)) (home s : SectionPos) (r radius n : ℕ) → home ≡ s → r ≡ radius → n ≡ count_by (λ q. not (is_here pages q)) (square home r) → n ≡ length (filter (λ q. not (is_here pages q)) (square s radius))
counted pages home s r radius n e f is = is ∙ (λ i. count_by (λ q. not (is_here pages q)) (square (e i) (f i))) ∙ sym (length-filter (λ q. not (is_here pages q)) (square s radius))

module _ (grid : Grid) (holds : List ((ℤ × ℤ) × ℕ)) (pages : List ((ℤ × ℤ) × Page)) (count : ℕ) (filled died : List SectionPos) (spare : ℕ) (kept : IsKept grid holds pages count) (c : ChunkPos) (limits : is_chunk c ≡ true) where
  near : (s : SectionPos) → is_within (section_of grid c) grid.create s ≡ true → is_section s ≡ true
  near s w = around_in_limits grid c s kept.numbers limits (leb-true _ _ w)

  pub home_within : is_within (section_of grid c) grid.create (section_of grid c) ≡ true
  home_within = le-leb _ _ (omega (arith, self_distance (section_of grid c)))

  pub home_near : (nat_abs (section_of grid c).x ≤ 1000008) × (nat_abs (section_of grid c).z ≤ 1000008)
  home_near = section_near (section_of grid c) (near (section_of grid c) home_within)

  rows : (filter (λ s. not (is_here pages s)) (square (section_of grid c) grid.create) ≡ filter (λ s. not (is_here pages s) && is_within (section_of grid c) grid.create s) all_sections)
      × (length (filter (λ s. not (is_here pages s)) (square (section_of grid c) grid.create)) ≡ count_sections (λ s. not (is_here pages s) && is_within (section_of grid c) grid.create s))
  rows =
      let p : SectionPos → Bool = λ s. not (is_here pages s) in
      section_rows_are (λ s. p s && is_within (section_of grid c) grid.create s) (filter p (square (section_of grid c) grid.create))
      (IsStrictlySortedBy-filter section_cmp p (square (section_of grid c) grid.create) (square_sorted (section_of grid c) grid.create))
      (λ s. section_members p (square (section_of grid c) grid.create) s ∙ ap (λ b. p s && b) (square_members (section_of grid c) grid.create s))
      (λ s h. near s (and_parts (p s) (is_within (section_of grid c) grid.create s) h).1)

  table-missing : is_missing (table grid holds pages filled died spare) c ≡ (λ s. not (is_here pages s) && is_within (section_of grid c) grid.create s)
  unfolding is_missing
  table-missing = ap (λ (f : SectionPos → Bool). λ (s : SectionPos). not (f s) && is_within (section_of grid c) grid.create s) (table-presence grid holds pages filled died spare kept.section_limits)

  -- all that the chunk needs are within the limits
  pub limits_more : (s : SectionPos) → (is_here pages s || is_within (section_of grid c) grid.create s) ≡ true → is_section s ≡ true
  limits_more s h = elim (or_cases (is_here pages s) (is_within (section_of grid c) grid.create s) h) [
    | inl e ↦ kept.section_limits s e
    | inr e ↦ near s e
  ]

  module _ (missing : List SectionPos) (found : missing ≡ filter (λ s. not (is_here pages s)) (square (section_of grid c) grid.create)) where
    pub missing_rows : missing ≡ filter (is_missing (table grid holds pages filled died spare) c) all_sections
    missing_rows = found ∙ rows.0 ∙ sym (ap (λ (p : SectionPos → Bool). filter p all_sections) table-missing)

    pub missing_length : length missing ≡ count_sections (λ s. not (is_here pages s) && is_within (section_of grid c) grid.create s)
    missing_length = ap length found ∙ rows.1

    count_missing : missing_count (table grid holds pages filled died spare) c ≡ length missing
    unfolding missing_count
    count_missing = ap count_sections table-missing ∙ sym missing_length

    count_present : present_count (table grid holds pages filled died spare) ≡ count
    unfolding present_count
    count_present = ap count_sections (table-presence grid holds pages filled died spare kept.section_limits) ∙ sym kept.count

    pub full-is : is_full_for (table grid holds pages filled died spare) c ≡ nat_lt 16384 (count + length missing)
    unfolding is_full_for
    full-is = ap (λ n. nat_lt 16384 (n + missing_count (table grid holds pages filled died spare) c)) count_present ∙ ap (λ n. nat_lt 16384 (count + n)) count_missing

    -- whether missing sections come
    pub fills-is : (not (is_full_for (table grid holds pages filled died spare) c) && not (nat_eq (missing_count (table grid holds pages filled died spare) c) 0)) ≡ (not (nat_lt 16384 (count + length missing)) && not (nat_eq (length missing) 0))
    fills-is = λ i. not (full-is i) && not (nat_eq (count_missing i) 0)

    pub added_full : (present wanted : ℕ) → present ≡ count → wanted ≡ length missing → 16384 < present + wanted → Full present wanted ≡ added (table grid holds pages filled died spare) c
    unfolding added
    added_full present wanted e f l =
        let yes : is_full_for (table grid holds pages filled died spare) c ≡ true = full-is ∙ lt-ltb 16384 (count + length missing) (omega arith) in
        let p : present_count (table grid holds pages filled died spare) ≡ present = count_present ∙ sym e in
        let w : missing_count (table grid holds pages filled died spare) c ≡ wanted = count_missing ∙ sym f in
        rw (yes, p, w) refl

    pub added_counted : (wanted : ℕ) → wanted ≡ length missing → count + length missing ≤ 16384 → wanted ≡ 0 → Counted ≡ added (table grid holds pages filled died spare) c
    unfolding added
    added_counted wanted f l z =
        let no : is_full_for (table grid holds pages filled died spare) c ≡ false = full-is ∙ le-ltb 16384 (count + length missing) l in
        let w : nat_eq (missing_count (table grid holds pages filled died spare) c) 0 ≡ true = eq-eqb _ _ (count_missing ∙ sym f ∙ z) in
        rw (no, w) refl

    pub added_filled : (wanted : ℕ) → wanted ≡ length missing → count + length missing ≤ 16384 → 0 < wanted → Filled ≡ added (table grid holds pages filled died spare) c
    unfolding added
    added_filled wanted f l z =
        let no : is_full_for (table grid holds pages filled died spare) c ≡ false = full-is ∙ le-ltb 16384 (count + length missing) l in
        let w : nat_eq (missing_count (table grid holds pages filled died spare) c) 0 ≡ false = ne_eqb _ _ (λ e. let k = sym f ∙ refl in omega (arith, count_missing)) in
        rw (no, w) refl

    pub among-missing : (s : SectionPos) → is_among missing s ≡ (not (is_here pages s) && is_within (section_of grid c) grid.create s)
    among-missing s = ap (λ xs. is_among xs s) found ∙ section_members (λ q. not (is_here pages q)) (square (section_of grid c) grid.create) s
        ∙ ap (λ b. not (is_here pages s) && b) (square_members (section_of grid c) grid.create s)

    pub here-more : (s : SectionPos) → (is_here pages s || is_among missing s) ≡ (is_here pages s || is_within (section_of grid c) grid.create s)
    here-more s = ap (λ b. is_here pages s || b) (among-missing s) ∙ either (is_here pages s) (is_within (section_of grid c) grid.create s)
      where
        either : (a b : Bool) → (a || (not a && b)) ≡ (a || b)
        either true b = refl
        either false b = refl

    pub presence-more : (s : SectionPos) → (is_here pages s || is_among missing s) ≡ (is_here pages s || is_missing (table grid holds pages filled died spare) c s)
    presence-more s = ap (λ b. is_here pages s || b) (among-missing s ∙ sym (ap (λ (f : SectionPos → Bool). f s) table-missing))
