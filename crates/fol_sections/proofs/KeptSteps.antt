-- What a table keeps over a change of a hold and of its sections.
use Rattle.std.proofs.Common.{◌≡◌, ℕ, ◌+◌, ◌-◌, ◌≤◌, refl, sym, ◌∙◌, ap, arith, Bool, true, false, cond, not, ◌&&◌, ◌||◌, inl, inr, List}
use Rattle.std.specs.Prelude.{ℤ, nat_eq, nat_le, nat_lt}
use Rattle.std.specs.List.{count_by}
use Rattle.std.proofs.lemmas.Bool.{cases_Bool, and_parts, or_cases, or_left, or_right, leb-true, lt-ltb, eqb-true}
use Rattle.std.proofs.lemmas.Bool.Decides.{nat_tests}
use Rattle.fol_model.specs.declared.places.ChunkPos.{ChunkPos}
use Rattle.fol_model.specs.declared.places.SectionPos.{SectionPos}
use Rattle.fol_model.specs.declared.grids.Grid.{Grid}
use Rattle.fol_model.specs.Geometry.{is_chunk, is_section, is_within, section_of, same_chunk, same_section}
use Rattle.fol_model.specs.GridState.{at_chunk}
use Rattle.fol_model.specs.Universe.{all_chunks, all_sections, count_sections}
use Rattle.fol_laws.proofs.SamePlaces.{same_chunk-true, same_chunk-self, same_section-true, same_section-self}
use Rattle.fol_laws.proofs.Distances.{distance_swap, self_distance}
use Rattle.fol_laws.proofs.SectionOrder.{section_count_change}
use Rattle.fol_laws.proofs.ChunkOrder.{chunk_count_change}
use Rattle.fol_laws.proofs.FloorDivision.{around_in_limits}
use Rattle.fol_sections.specs.Places.{count_at}
use Rattle.fol_sections.specs.Pages.{chunks_at, is_here, near_at}
use Rattle.fol_sections.specs.declared.pages.Page.{Page}
use Rattle.fol_sections.specs.Kept.{IsKept, is_filled_near, is_held, is_loaded_in}
use Rattle.fol_sections.proofs.Margins.{count-like, count-or}

-- ---- which chunks are held after a change of one count
module _ (before after : List ((ℤ × ℤ) × ℕ)) (c : ChunkPos) where
  pub held-raised : ((q : ChunkPos) → count_at after q ≡ at_chunk (count_at before) c (count_at before c + 1) q) → (q : ChunkPos) → is_held after q ≡ (same_chunk c q || is_held before q)
  held-raised step q = ap (nat_lt 0) (step q) ∙ elim (cases_Bool (same_chunk c q)) [
    | inl e ↦ rw e (lt-ltb 0 (count_at before c + 1) (omega arith))
    | inr e ↦ rw e refl
  ]

  pub held-lowered : ((q : ChunkPos) → count_at after q ≡ at_chunk (count_at before) c (count_at before c - 1) q) → (q : ChunkPos)
      → is_held after q ≡ (is_held before q && not (same_chunk c q && nat_eq (count_at before c) 1))
  held-lowered step q = ap (nat_lt 0) (step q) ∙ elim (cases_Bool (same_chunk c q)) [
    | inl e ↦ let s = same_chunk-true c q e in rw e (lower (count_at before c) (count_at before q) (ap (count_at before) s))
    | inr e ↦ rw e (sym (always (nat_lt 0 (count_at before q))))
  ]
    where
      always : (b : Bool) → (b && true) ≡ b
      always true = refl
      always false = refl

      lower : (m n : ℕ) → m ≡ n → nat_lt 0 (m - 1) ≡ (nat_lt 0 n && not (nat_eq m 1))
      lower m n h = grind (arith, nat_tests)

-- ---- one hold more
module _ (grid : Grid) (holds holds' : List ((ℤ × ℤ) × ℕ)) (pages pages' : List ((ℤ × ℤ) × Page)) (count count' : ℕ) (c : ChunkPos) (kept : IsKept grid holds pages count) (limits : is_chunk c ≡ true)
    (counts : (q : ChunkPos) → count_at holds' q ≡ at_chunk (count_at holds) c (count_at holds c + 1) q)
    (here : (s : SectionPos) → is_here pages' s ≡ (is_here pages s || is_within (section_of grid c) grid.create s))
    (chunks : (s : SectionPos) → chunks_at pages' s ≡ cond (same_section (section_of grid c) s && not (is_held holds c)) 1 0 + chunks_at pages s)
    (near : (s : SectionPos) → near_at pages' s ≡ near_at pages s + cond (not (is_held holds c) && (nat_eq (chunks_at pages (section_of grid c)) 0 && is_within (section_of grid c) grid.create s)) 1 0)
    (len : count' ≡ count + count_sections (λ s. not (is_here pages s) && is_within (section_of grid c) grid.create s)) (few : count' ≤ 16384) where
  held : (q : ChunkPos) → is_held holds' q ≡ (same_chunk c q || is_held holds q)
  held = held-raised holds holds' c counts

  loaded-other : (s : SectionPos) (q : ChunkPos) → same_chunk c q ≡ false → is_loaded_in grid holds' s q ≡ is_loaded_in grid holds s q
  loaded-other s q e = ap (λ b. b && same_section (section_of grid q) s) (held q ∙ ap (λ b. b || is_held holds q) e)

  new_chunks : (s : SectionPos) → chunks_at pages' s ≡ count_by (is_loaded_in grid holds' s) all_chunks
  new_chunks s = elim (cases_Bool (is_held holds c)) [
    | inl h ↦
        let same : (q : ChunkPos) → is_loaded_in grid holds s q ≡ is_loaded_in grid holds' s q = λ q. elim (cases_Bool (same_chunk c q)) [
          | inl e ↦ let k = same_chunk-true c q e in
              let now : is_held holds' q ≡ is_held holds q = held q ∙ or_left (same_chunk c q) (is_held holds q) e ∙ sym (ap (is_held holds) (sym k) ∙ h) in
              ap (λ b. b && same_section (section_of grid q) s) (sym now)
          | inr e ↦ sym (loaded-other s q e)
        ] in
        chunks s ∙ ap (λ b. cond (same_section (section_of grid c) s && not b) 1 0 + chunks_at pages s) h ∙ nothing (same_section (section_of grid c) s) (chunks_at pages s)
        ∙ kept.chunks s ∙ count-like (is_loaded_in grid holds s) (is_loaded_in grid holds' s) all_chunks same
    | inr h ↦
        let was : is_loaded_in grid holds s c ≡ false = ap (λ b. b && same_section (section_of grid c) s) h in
        let change = chunk_count_change (is_loaded_in grid holds' s) (is_loaded_in grid holds s) c limits was (λ q e. loaded-other s q e) in
        let now : is_loaded_in grid holds' s c ≡ same_section (section_of grid c) s = ap (λ b. b && same_section (section_of grid c) s) (held c ∙ or_left (same_chunk c c) (is_held holds c) (same_chunk-self c)) in
        chunks s ∙ ap (λ b. cond (same_section (section_of grid c) s && not b) 1 0 + chunks_at pages s) h
        ∙ ap (λ b. cond b 1 0 + chunks_at pages s) (always (same_section (section_of grid c) s))
        ∙ ap (λ n. cond (same_section (section_of grid c) s) 1 0 + n) (kept.chunks s)
        ∙ sym (change ∙ ap (λ b. cond b 1 0 + count_by (is_loaded_in grid holds s) all_chunks) now)
  ]
    where
      always : (b : Bool) → (b && true) ≡ b
      always true = refl
      always false = refl

      nothing : (b : Bool) (n : ℕ) → cond (b && false) 1 0 + n ≡ n
      nothing true n = omega arith
      nothing false n = omega arith

  abbrev home : SectionPos
  home = section_of grid c

  new_near : (s : SectionPos) → near_at pages' s ≡ count_sections (is_filled_near grid pages' s)
  new_near s = elim (cases_Bool (not (is_held holds c) && nat_eq (chunks_at pages home) 0)) [
    | inr e ↦
        let same : (q : SectionPos) → is_filled_near grid pages' s q ≡ is_filled_near grid pages s q = λ q. ap (λ b. b && is_within s grid.create q)
        (ap (nat_lt 0) (chunks q) ∙ still (same_section home q) (is_held holds c) (chunks_at pages home) (chunks_at pages q) (λ h. ap (chunks_at pages) (same_section-true home q h)) e) in
        near s ∙ ap (λ b. near_at pages s + cond b 1 0) (regroup (not (is_held holds c)) (nat_eq (chunks_at pages home) 0) (is_within home grid.create s)) ∙ ap (λ b. near_at pages s + cond (b && is_within home grid.create s) 1 0) e
        ∙ plain (near_at pages s) ∙ kept.near s ∙ sym (count-like (is_filled_near grid pages' s) (is_filled_near grid pages s) all_sections same)
    | inl e ↦
        let p = and_parts (not (is_held holds c)) (nat_eq (chunks_at pages home) 0) e in
        let empty : chunks_at pages home ≡ 0 = eqb-true _ _ p.1 in
        let was : is_filled_near grid pages s home ≡ false = ap (λ n. nat_lt 0 n && is_within s grid.create home) empty in
        let now : is_filled_near grid pages' s home ≡ is_within s grid.create home = ap (λ n. nat_lt 0 n && is_within s grid.create home)
        (chunks home ∙ (λ i. cond (same_section-self home i && p.0 i) 1 0 + empty i)) in
        let other : (q : SectionPos) → same_section home q ≡ false → is_filled_near grid pages' s q ≡ is_filled_near grid pages s q = λ q h.
        ap (λ n. nat_lt 0 n && is_within s grid.create q) (chunks q ∙ ap (λ b. cond (b && not (is_held holds c)) 1 0 + chunks_at pages q) h ∙ add_none (chunks_at pages q)) in
        let change = section_count_change (is_filled_near grid pages' s) (is_filled_near grid pages s) home home_limits was other in
        let swap : is_within s grid.create home ≡ is_within home grid.create s = ap (λ d. nat_le d grid.create) (distance_swap s home) in
        near s ∙ ap (λ b. near_at pages s + cond b 1 0) (regroup (not (is_held holds c)) (nat_eq (chunks_at pages home) 0) (is_within home grid.create s)) ∙ ap (λ b. near_at pages s + cond (b && is_within home grid.create s) 1 0) e
        ∙ turn (near_at pages s) (cond (is_within home grid.create s) 1 0) ∙ (λ i. cond (sym (now ∙ swap) i) 1 0 + kept.near s i) ∙ sym change
  ]
    where
      home_limits : is_section home ≡ true
      home_limits = around_in_limits grid c home kept.numbers limits (omega (arith, self_distance home))

      still : (same was : Bool) (at_home n : ℕ) → (same ≡ true → at_home ≡ n) → (not was && nat_eq at_home 0) ≡ false → nat_lt 0 (cond (same && not was) 1 0 + n) ≡ nat_lt 0 n
      still same was at_home n e h = grind (arith, nat_tests)

      regroup : (a b d : Bool) → (a && (b && d)) ≡ ((a && b) && d)
      regroup true b d = refl
      regroup false b d = refl

      plain : (n : ℕ) → n + 0 ≡ n
      plain n = omega arith

      add_none : (n : ℕ) → 0 + n ≡ n
      add_none n = omega arith

      turn : (n k : ℕ) → n + k ≡ k + n
      turn n k = omega arith

  pub kept_add : IsKept grid holds' pages' count'
  kept_add = record {
    numbers = kept.numbers;
    chunk_limits = λ q h. elim (or_cases (same_chunk c q) (is_held holds q) (sym (held q) ∙ h)) [
      | inl e ↦ ap is_chunk (sym (same_chunk-true c q e)) ∙ limits
      | inr e ↦ kept.chunk_limits q e
    ];
    section_limits = λ s h. elim (or_cases (is_here pages s) (is_within (section_of grid c) grid.create s) (sym (here s) ∙ h)) [
      | inl e ↦ kept.section_limits s e
      | inr e ↦ around_in_limits grid c s kept.numbers limits (leb-true _ _ e)
    ];
    chunks = new_chunks;
    near = new_near;
    margin = λ q s h w. elim (or_cases (same_chunk c q) (is_held holds q) (sym (held q) ∙ h)) [
      | inl e ↦ here s ∙ or_right (is_here pages s) _ (ap (λ k. is_within (section_of grid k) grid.create s) (same_chunk-true c q e) ∙ w)
      | inr e ↦ here s ∙ or_left _ _ (kept.margin q s e w)
    ];
    count = len ∙ ap (λ n. n + count_sections (λ s. not (is_here pages s) && is_within (section_of grid c) grid.create s)) kept.count
        ∙ sym (count-like (is_here pages') (λ s. is_here pages s || is_within (section_of grid c) grid.create s) all_sections here
        ∙ count-or (is_here pages) (is_within (section_of grid c) grid.create) all_sections);
    few = few;
  }

-- ---- one hold less
module _ (grid : Grid) (holds holds' : List ((ℤ × ℤ) × ℕ)) (pages pages' : List ((ℤ × ℤ) × Page)) (count : ℕ) (c : ChunkPos) (kept : IsKept grid holds pages count)
    (counts : (q : ChunkPos) → count_at holds' q ≡ at_chunk (count_at holds) c (count_at holds c - 1) q)
    (here : (s : SectionPos) → is_here pages' s ≡ is_here pages s)
    (chunks : (s : SectionPos) → chunks_at pages s ≡ cond (same_section (section_of grid c) s && nat_eq (count_at holds c) 1) 1 0 + chunks_at pages' s)
    (near : (s : SectionPos) → near_at pages s ≡ near_at pages' s + cond (nat_eq (count_at holds c) 1 && (nat_eq (chunks_at pages (section_of grid c)) 1 && is_within (section_of grid c) grid.create s)) 1 0) where
  held_less : (q : ChunkPos) → is_held holds' q ≡ (is_held holds q && not (same_chunk c q && nat_eq (count_at holds c) 1))
  held_less = held-lowered holds holds' c counts

  was_held : (q : ChunkPos) → is_held holds' q ≡ true → is_held holds q ≡ true
  was_held q h = (and_parts (is_held holds q) (not (same_chunk c q && nat_eq (count_at holds c) 1)) (sym (held_less q) ∙ h)).0

  less_chunks : (s : SectionPos) → chunks_at pages' s ≡ count_by (is_loaded_in grid holds' s) all_chunks
  less_chunks s = elim (cases_Bool (nat_eq (count_at holds c) 1)) [
    | inr h ↦
        let same : (q : ChunkPos) → is_loaded_in grid holds s q ≡ is_loaded_in grid holds' s q = λ q.
        ap (λ b. b && same_section (section_of grid q) s) (sym (held_less q ∙ ap (λ b. is_held holds q && not (same_chunk c q && b)) h ∙ stays (is_held holds q) (same_chunk c q))) in
        let e = chunks s ∙ ap (λ b. cond (same_section (section_of grid c) s && b) 1 0 + chunks_at pages' s) h ∙ nothing (same_section (section_of grid c) s) (chunks_at pages' s) in
        sym e ∙ kept.chunks s ∙ count-like (is_loaded_in grid holds s) (is_loaded_in grid holds' s) all_chunks same
    | inl h ↦
        let was : is_held holds c ≡ true = lt-ltb 0 (count_at holds c) (omega (arith, eqb-true _ _ h)) in
        let now : is_loaded_in grid holds' s c ≡ false = ap (λ b. b && same_section (section_of grid c) s)
        (held_less c ∙ ap (λ b. is_held holds c && not (same_chunk c c && b)) h ∙ ap (λ b. is_held holds c && not (b && true)) (same_chunk-self c) ∙ never (is_held holds c)) in
        let other : (q : ChunkPos) → same_chunk c q ≡ false → is_loaded_in grid holds s q ≡ is_loaded_in grid holds' s q = λ q e.
        ap (λ b. b && same_section (section_of grid q) s) (sym (held_less q ∙ ap (λ b. is_held holds q && not (b && nat_eq (count_at holds c) 1)) e ∙ always (is_held holds q))) in
        let change = chunk_count_change (is_loaded_in grid holds s) (is_loaded_in grid holds' s) c (kept.chunk_limits c was) now other in
        let first : is_loaded_in grid holds s c ≡ same_section (section_of grid c) s = ap (λ b. b && same_section (section_of grid c) s) was in
        let k = chunks s ∙ ap (λ b. cond (same_section (section_of grid c) s && b) 1 0 + chunks_at pages' s) h ∙ ap (λ b. cond b 1 0 + chunks_at pages' s) (always (same_section (section_of grid c) s)) in
        let m = kept.chunks s ∙ change ∙ ap (λ b. cond b 1 0 + count_by (is_loaded_in grid holds' s) all_chunks) first in
        omega (arith, k, m)
  ]
    where
      always : (b : Bool) → (b && true) ≡ b
      always true = refl
      always false = refl

      never : (b : Bool) → (b && false) ≡ false
      never true = refl
      never false = refl

      stays : (b d : Bool) → (b && not (d && false)) ≡ b
      stays true true = refl
      stays true false = refl
      stays false d = refl

      nothing : (b : Bool) (n : ℕ) → cond (b && false) 1 0 + n ≡ n
      nothing true n = omega arith
      nothing false n = omega arith

  abbrev home_less : SectionPos
  home_less = section_of grid c

  less_near : (s : SectionPos) → near_at pages' s ≡ count_sections (is_filled_near grid pages' s)
  less_near s = elim (cases_Bool (nat_eq (count_at holds c) 1 && nat_eq (chunks_at pages home_less) 1)) [
    | inr e ↦
        let same : (q : SectionPos) → is_filled_near grid pages' s q ≡ is_filled_near grid pages s q = λ q. ap (λ b. b && is_within s grid.create q)
        (still (same_section home_less q) (nat_eq (count_at holds c) 1) (chunks_at pages home_less) (chunks_at pages q) (chunks_at pages' q) (λ h. ap (chunks_at pages) (same_section-true home_less q h)) (chunks q) e) in
        let less : near_at pages s ≡ near_at pages' s + 0 = near s ∙ ap (λ b. near_at pages' s + cond b 1 0) (regroup (nat_eq (count_at holds c) 1) (nat_eq (chunks_at pages home_less) 1) (is_within home_less grid.create s))
        ∙ ap (λ b. near_at pages' s + cond (b && is_within home_less grid.create s) 1 0) e in
        plain (near_at pages s) (near_at pages' s) less ∙ kept.near s ∙ sym (count-like (is_filled_near grid pages' s) (is_filled_near grid pages s) all_sections same)
    | inl e ↦
        let p = and_parts (nat_eq (count_at holds c) 1) (nat_eq (chunks_at pages home_less) 1) e in
        let one : chunks_at pages home_less ≡ 1 = eqb-true _ _ p.1 in
        let was : is_held holds c ≡ true = lt-ltb 0 (count_at holds c) (omega (arith, eqb-true _ _ p.0)) in
        let left : chunks_at pages home_less ≡ 1 + chunks_at pages' home_less = chunks home_less ∙ (λ i. cond (same_section-self home_less i && p.0 i) 1 0 + chunks_at pages' home_less) in
        let empty : chunks_at pages' home_less ≡ 0 = omega arith in
        let now : is_filled_near grid pages' s home_less ≡ false = ap (λ n. nat_lt 0 n && is_within s grid.create home_less) empty in
        let first : is_filled_near grid pages s home_less ≡ is_within s grid.create home_less = ap (λ n. nat_lt 0 n && is_within s grid.create home_less) one in
        let other : (q : SectionPos) → same_section home_less q ≡ false → is_filled_near grid pages s q ≡ is_filled_near grid pages' s q = λ q h.
        ap (λ n. nat_lt 0 n && is_within s grid.create q) (chunks q ∙ ap (λ b. cond (b && nat_eq (count_at holds c) 1) 1 0 + chunks_at pages' q) h ∙ add_none (chunks_at pages' q)) in
        let limits_home = around_in_limits grid c home_less kept.numbers (kept.chunk_limits c was) (omega (arith, self_distance home_less)) in
        let change = section_count_change (is_filled_near grid pages s) (is_filled_near grid pages' s) home_less limits_home now other in
        let swap : is_within s grid.create home_less ≡ is_within home_less grid.create s = ap (λ d. nat_le d grid.create) (distance_swap s home_less) in
        let less : near_at pages s ≡ near_at pages' s + cond (is_within home_less grid.create s) 1 0 = near s
        ∙ ap (λ b. near_at pages' s + cond b 1 0) (regroup (nat_eq (count_at holds c) 1) (nat_eq (chunks_at pages home_less) 1) (is_within home_less grid.create s))
        ∙ ap (λ b. near_at pages' s + cond (b && is_within home_less grid.create s) 1 0) e in
        let all = change ∙ ap (λ b. cond b 1 0 + count_sections (is_filled_near grid pages' s)) (first ∙ swap) in
        omega (arith, less, all, kept.near s)
  ]
    where
      still : (same last : Bool) (at_home n m : ℕ) → (same ≡ true → at_home ≡ n) → n ≡ cond (same && last) 1 0 + m → (last && nat_eq at_home 1) ≡ false → nat_lt 0 m ≡ nat_lt 0 n
      still same last at_home n m e k h = grind (arith, nat_tests)

      regroup : (a b d : Bool) → (a && (b && d)) ≡ ((a && b) && d)
      regroup true b d = refl
      regroup false b d = refl

      plain : (n m : ℕ) → n ≡ m + 0 → m ≡ n
      plain n m e = omega arith

      add_none : (n : ℕ) → 0 + n ≡ n
      add_none n = omega arith

  pub kept_remove : IsKept grid holds' pages' count
  kept_remove = record {
    numbers = kept.numbers;
    chunk_limits = λ q h. kept.chunk_limits q (was_held q h);
    section_limits = λ s h. kept.section_limits s (sym (here s) ∙ h);
    chunks = less_chunks;
    near = less_near;
    margin = λ q s h w. here s ∙ kept.margin q s (was_held q h) w;
    count = kept.count ∙ sym (count-like (is_here pages') (is_here pages) all_sections here);
    few = kept.few;
  }
