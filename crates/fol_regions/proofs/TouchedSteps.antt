-- The regions near a chunk that an event on it may touch.
use Rattle.std.proofs.Common.{◌≡◌, ℕ, ◌+◌, ◌≤◌, ◌<◌, refl, sym, ◌∙◌, ap, arith, Bool, true, false, cond, not, ◌&&◌, ◌||◌, [], ◌∷◌, inl, inr}
use Rattle.std.specs.Prelude.{filter, nat_abs, nat_eq, nat_lt}
use Rattle.std.proofs.Math.Bool.{or-false}
use Rattle.std.proofs.lemmas.Bool.{cases_Bool, and_parts, and_from, or_cases, or_right, lt-ltb, ltb-true, le-leb, leb-true}
use Rattle.fol_model.specs.declared.grids.Grid.{Grid}
use Rattle.fol_model.specs.declared.places.ChunkPos.{ChunkPos}
use Rattle.fol_model.specs.declared.places.SectionPos.{SectionPos}
use Rattle.fol_model.specs.Add.{is_full, is_near}
use Rattle.fol_model.specs.Geometry.{is_chunk, is_section, is_within, section_of}
use Rattle.fol_model.specs.GridNumbers.{IsGrid}
use Rattle.fol_model.specs.Universe.{numbers_below, some_section}
use Rattle.fol_laws.specs.LateBegin.{ground, draws_in}
use Rattle.fol_laws.proofs.AllSections.{some_section-is, some_section-gives}
use Rattle.fol_laws.proofs.Distances.{no_distance, self_distance}
use Rattle.fol_laws.proofs.FloorDivision.{around_in_limits}
use Rattle.fol_laws.proofs.Tests.{same_answer}
use Rattle.fol_sections.specs.Table as sections
use Rattle.fol_sections.specs.Table.{is_full_for, missing_count}
use Rattle.fol_sections.proofs.Margins.{section_near}
use Rattle.fol_region_tables.specs.Book.{Book, owner_of}
use Rattle.fol_region_tables.proofs.Chosen.{filter_like}
use Rattle.fol_regions.specs.Near.{is_close, regions_of}
use Rattle.fol_regions.specs.Released.{IsPresence, grid_of}
use Rattle.fol_regions.specs.Touched.{is_touched}
use Rattle.fol_regions.proofs.HoldSteps as hold

module _ (owner : SectionPos → ℕ) (home : SectionPos) (limits : is_section home ≡ true) (r : ℕ) (some : 0 < r) where
  -- the region of a section is near it, however small the radius
  own_close : (reach : ℕ) → nat_eq (owner home) r ≡ true → is_close owner home reach r ≡ true
  own_close reach h = and_from (nat_lt 0 r) _ (lt-ltb 0 r some)
      (some_section-is (λ s. nat_eq (owner s) r && is_within home reach s) home limits (and_from (nat_eq (owner home) r) (is_within home reach home) h (le-leb _ _ (omega (arith, self_distance home)))))

  -- and it alone with the radius 0
  close_alone : is_close owner home 0 r ≡ nat_eq (owner home) r
  close_alone = same_answer _ _ (λ h.
      let x = some_section-gives (λ s. nat_eq (owner s) r && is_within home 0 s) (and_parts (nat_lt 0 r) _ h).1 in
      let p = and_parts (nat_eq (owner x.0) r) (is_within home 0 x.0) x.2 in
      ap (λ (s : SectionPos). nat_eq (owner s) r) (no_distance home x.0 (leb-true _ _ p.1)) ∙ p.0) (own_close 0)

-- the regions of one section
owner_near : (owner : SectionPos → ℕ) (home : SectionPos) → is_section home ≡ true → (next : ℕ) → regions_of owner next (home ∷ []) ≡ filter (is_close owner home 0) (numbers_below next)
unfolding regions_of
owner_near owner home limits next = filter_like _ _ (λ r. elim (cases_Bool (nat_lt 0 r)) [
  | inl e ↦ ap (λ b. b && (nat_eq (owner home) r || false)) e ∙ or-false (nat_eq (owner home) r) ∙ sym (close_alone owner home limits r (ltb-true 0 r e))
  | inr e ↦ ap (λ b. b && (nat_eq (owner home) r || false)) e ∙ sym (ap (λ b. b && some_section (λ s. nat_eq (owner s) r && is_within home 0 s)) e)
]) (numbers_below next)

-- the section of a chunk is within the limits
home_section : (grid : Grid) (c : ChunkPos) → IsGrid grid → is_chunk c ≡ true → is_section (section_of grid c) ≡ true
home_section grid c ok limits = around_in_limits grid c (section_of grid c) ok limits (omega (arith, self_distance (section_of grid c)))

pub home_near : (grid : Grid) (c : ChunkPos) → IsGrid grid → is_chunk c ≡ true → (nat_abs (section_of grid c).x ≤ 1000008) × (nat_abs (section_of grid c).z ≤ 1000008)
home_near grid c ok limits = section_near (section_of grid c) (home_section grid c ok limits)

module _ (s : sections.Table) (b : Book) (presence : IsPresence s b) (ok : IsGrid s.grid) (c : ChunkPos) (limits : is_chunk c ≡ true) where
  at_home : is_section (section_of s.grid c) ≡ true
  at_home = home_section s.grid c ok limits

  -- where the hold would make sections present, the near regions are touched, and else the owner alone
  near_touched : (f w : Bool) (r : ℕ) → 0 < r → is_close (owner_of b) (section_of s.grid c) (cond (f && w) (s.grid.create + s.grid.merge) 0) r
      ≡ (nat_eq (owner_of b (section_of s.grid c)) r || (f && (w && is_close (owner_of b) (section_of s.grid c) (s.grid.create + s.grid.merge) r)))
  near_touched true true r some = same_answer _ _ (or_right (nat_eq (owner_of b (section_of s.grid c)) r) _)
      (λ h. elim (or_cases (nat_eq (owner_of b (section_of s.grid c)) r) _ h) [
        | inl e ↦ own_close (owner_of b) (section_of s.grid c) at_home r some (s.grid.create + s.grid.merge) e
        | inr e ↦ e
      ])
  near_touched true false r some = close_alone (owner_of b) (section_of s.grid c) at_home r some ∙ sym (or-false _)
  near_touched false w r some = close_alone (owner_of b) (section_of s.grid c) at_home r some ∙ sym (or-false _)

  touched_is : (r : ℕ) → is_close (owner_of b) (section_of s.grid c) (cond (not (is_full_for s c) && not (nat_eq (missing_count s c) 0)) (s.grid.create + s.grid.merge) 0) r ≡ is_touched (grid_of s b) c r
  unfolding grid_of is_near
  touched_is r = elim (cases_Bool (nat_lt 0 r)) [
    | inl e ↦
        let near = near_touched (not (is_full_for s c)) (not (nat_eq (missing_count s c) 0)) r (ltb-true 0 r e) in
        let same = ap (λ x. not x && (not (nat_eq (missing_count s c) 0) && is_near (grid_of s b) c r)) (hold.full_same s b presence c)
        ∙ ap (λ n. not (is_full (grid_of s b) c) && (not (nat_eq n 0) && is_near (grid_of s b) c r)) (hold.wanted_same s b presence c) in
        near ∙ ap (λ x. nat_eq (owner_of b (section_of s.grid c)) r || x) same ∙ sym (ap (λ x. x && (ground (grid_of s b) r c || draws_in (grid_of s b) c r)) e)
    | inr e ↦ rw e refl
  ]

  -- the regions that were found
  pub touched_are : (reach : ℕ) → reach ≡ cond (not (is_full_for s c) && not (nat_eq (missing_count s c) 0)) (s.grid.create + s.grid.merge) 0
      → filter (is_close (owner_of b) (section_of s.grid c) reach) (numbers_below b.next) ≡ filter (is_touched (grid_of s b) c) (numbers_below b.next)
  touched_are reach e =
      ap (λ (n : ℕ). filter (is_close (owner_of b) (section_of s.grid c) n) (numbers_below b.next)) e
      ∙ filter_like _ _ touched_is (numbers_below b.next)

  -- where it would make none, the owner of the chunk's section
  pub owner_touched : 0 ≡ cond (not (is_full_for s c) && not (nat_eq (missing_count s c) 0)) (s.grid.create + s.grid.merge) 0
      → regions_of (owner_of b) b.next (section_of s.grid c ∷ []) ≡ filter (is_touched (grid_of s b) c) (numbers_below b.next)
  owner_touched e = owner_near (owner_of b) (section_of s.grid c) at_home b.next ∙ touched_are 0 e
