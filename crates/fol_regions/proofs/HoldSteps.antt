-- An added hold in both tables.
use Rattle.std.proofs.Common.{◌≡◌, ℕ, ◌+◌, ◌≤◌, ◌<◌, refl, sym, ◌∙◌, ap, arith, Bool, true, false, cond, not, ◌&&◌, ◌||◌, List, length, inl, inr}
use Rattle.std.specs.Prelude.{filter, nat_eq, nat_lt}
use Rattle.std.proofs.Math.Bool.{or-false, or-true}
use Rattle.std.proofs.lemmas.Bool.{cases_Bool, eqb-true, lt-ltb, ltb-false, leb-true, and_parts}
use Rattle.std.proofs.lemmas.List.Sums.{length-filter}
use Rattle.fol_model.specs.declared.places.ChunkPos.{ChunkPos}
use Rattle.fol_model.specs.declared.places.SectionPos.{SectionPos}
use Rattle.fol_model.specs.Add.{add, counted, extended, is_full, is_greatest, is_near, is_near_calm, is_wanted, target, target_waits, wanted}
use Rattle.fol_model.specs.Geometry.{is_chunk, is_section, is_within, section_of}
use Rattle.fol_model.specs.GridNumbers.{IsGrid}
use Rattle.fol_model.specs.GridState.{at_chunk}
use Rattle.fol_model.specs.GridState as grid
use Rattle.fol_model.specs.Rules.{Rules}
use Rattle.fol_model.specs.Universe.{all_sections, count_sections}
use Rattle.fol_laws.proofs.AddTarget.{near_has, target_pos}
use Rattle.fol_laws.proofs.AllSections.{count_sections-is}
use Rattle.fol_laws.proofs.FloorDivision.{around_in_limits}
use Rattle.fol_laws.proofs.GridFields.{fewer_keeps}
use Rattle.fol_sections.specs.Table as sections
use Rattle.fol_sections.specs.Table.{holds_of, presence_of, is_missing, missing_count, is_full_for, added, Adds, IsSame}
use Rattle.fol_sections.specs.declared.answers.Added.{Added}
use Rattle.fol_sections.specs.declared.answers.Added.TheVariants as answers
use Rattle.fol_regions.specs.declared.answers.AddAnswer.TheVariants.{Counted, Changed, Full}
use Rattle.fol_regions.specs.Added.{bare, extended_change}
use Rattle.fol_regions.specs.Answers.{add_answer}
use Rattle.fol_region_tables.specs.Book.{Book, owner_of, state_of, waits_of}
use Rattle.fol_regions.specs.Changes.{add_change, nothing}
use Rattle.fol_regions.specs.Released.{IsPresence, grid_of}
use Rattle.fol_region_tables.proofs.Chosen.{count_like, filter_like}

-- ---- the answers of the table of sections
module _ (f : Bool) (p w : ℕ) where
  given : Added
  given = cond f (answers.Full p w) (cond (nat_eq w 0) answers.Counted answers.Filled)

  pub was_full : (q v : ℕ) → cond f (answers.Full p w) (cond (nat_eq w 0) answers.Counted answers.Filled) ≡ answers.Full q v → (f ≡ true) × ((q ≡ p) × (v ≡ w))
  was_full q v e = elim (cases_Bool f) [
    | inl k ↦ let x = rw k at e in (k, (cc, cc))
    | inr k ↦ let x = rw k at e in elim (cases_Bool (nat_eq w 0)) [
      | inl m ↦ let y = rw m at x in absurd (cc)
      | inr m ↦ let y = rw m at x in absurd (cc)
    ]
  ]

  pub was_counted : cond f (answers.Full p w) (cond (nat_eq w 0) answers.Counted answers.Filled) ≡ answers.Counted → (f ≡ false) × (nat_eq w 0 ≡ true)
  was_counted e = elim (cases_Bool f) [
    | inl k ↦ let x = rw k at e in absurd (cc)
    | inr k ↦ let x = rw k at e in elim (cases_Bool (nat_eq w 0)) [
      | inl m ↦ (k, m)
      | inr m ↦ let y = rw m at x in absurd (cc)
    ]
  ]

  pub was_filled : cond f (answers.Full p w) (cond (nat_eq w 0) answers.Counted answers.Filled) ≡ answers.Filled → (f ≡ false) × (nat_eq w 0 ≡ false)
  was_filled e = elim (cases_Bool f) [
    | inl k ↦ let x = rw k at e in absurd (cc)
    | inr k ↦ let x = rw k at e in elim (cases_Bool (nat_eq w 0)) [
      | inl m ↦ let y = rw m at x in absurd (cc)
      | inr m ↦ (k, m)
    ]
  ]

pub present_same : (s : sections.Table) (b : Book) → IsPresence s b → sections.present_count s ≡ grid.present_count (grid_of s b)
unfolding grid_of sections.present_count
present_same s b presence = count_like (presence_of s) (λ q. nat_lt 0 (owner_of b q)) presence all_sections

module _ (s : sections.Table) (b : Book) (presence : IsPresence s b) (c : ChunkPos) where
  pub missing_same : (q : SectionPos) → is_missing s c q ≡ is_wanted (grid_of s b) c q
  unfolding grid_of is_missing
  missing_same q = ap (λ x. not x && is_within (section_of s.grid c) s.grid.create q) (presence q)

  pub wanted_same : missing_count s c ≡ wanted (grid_of s b) c
  unfolding missing_count wanted
  wanted_same = count_like (is_missing s c) (is_wanted (grid_of s b) c) missing_same all_sections

  pub full_same : is_full_for s c ≡ is_full (grid_of s b) c
  unfolding is_full_for is_full
  full_same = λ i. nat_lt 16384 (present_same s b presence i + wanted_same i)

  -- ---- what the answers say
  pub full_says : (p w : ℕ) → added s c ≡ answers.Full p w → (is_full (grid_of s b) c ≡ true) × ((p ≡ grid.present_count (grid_of s b)) × (w ≡ wanted (grid_of s b) c))
  unfolding added
  full_says p w e = let x = was_full (is_full_for s c) (sections.present_count s) (missing_count s c) p w e in (sym full_same ∙ x.0, (x.1.0 ∙ present_same s b presence, x.1.1 ∙ wanted_same))

  pub counted_says : added s c ≡ answers.Counted → (is_full (grid_of s b) c ≡ false) × (nat_eq (wanted (grid_of s b) c) 0 ≡ true)
  unfolding added
  counted_says e = let x = was_counted (is_full_for s c) (sections.present_count s) (missing_count s c) e in (sym full_same ∙ x.0, ap (λ n. nat_eq n 0) (sym wanted_same) ∙ x.1)

  pub filled_says : added s c ≡ answers.Filled → (is_full (grid_of s b) c ≡ false) × (nat_eq (wanted (grid_of s b) c) 0 ≡ false)
  unfolding added
  filled_says e = let x = was_filled (is_full_for s c) (sections.present_count s) (missing_count s c) e in (sym full_same ∙ x.0, ap (λ n. nat_eq n 0) (sym wanted_same) ∙ x.1)

  -- ---- Full
  module _ (full : is_full (grid_of s b) c ≡ true) where
    pub full_state : add (grid_of s b) c ≡ grid_of s b
    unfolding add
    full_state = rw full refl

    pub full_change : add_change (grid_of s b) c ≡ nothing
    unfolding add_change
    full_change = rw full refl

    pub full_answer : add_answer (grid_of s b) c ≡ Full (grid.present_count (grid_of s b)) (wanted (grid_of s b) c)
    full_answer = rw full refl

  pub not_full : is_full (grid_of s b) c ≡ false → count_sections (λ q. nat_lt 0 (owner_of b q)) + wanted (grid_of s b) c ≤ 16384
  unfolding is_full grid_of
  not_full h = ltb-false 16384 (count_sections (λ q. nat_lt 0 (owner_of b q)) + wanted (grid_of s b) c) h

  pub same_grid : (s' : sections.Table) → IsSame s s' → grid_of s' b ≡ grid_of s b
  unfolding grid_of
  same_grid s' h = λ i. record { grid = h.grid i; holds = h.holds i; owner = owner_of b; state = state_of b; waits = waits_of b; next = b.next }

  -- ---- Counted
  module _ (full : is_full (grid_of s b) c ≡ false) (zero : nat_eq (wanted (grid_of s b) c) 0 ≡ true) where
    pub counted_state : add (grid_of s b) c ≡ counted (grid_of s b) c
    unfolding add
    counted_state = rw (full, zero) refl

    pub counted_change : add_change (grid_of s b) c ≡ nothing
    unfolding add_change
    counted_change = rw (full, zero) refl

    pub counted_answer : add_answer (grid_of s b) c ≡ Counted
    counted_answer = rw (full, zero) refl

  pub counted_grid : (s' : sections.Table) → Adds s s' c → s'.grid ≡ s.grid → grid_of s' b ≡ counted (grid_of s b) c
  unfolding grid_of
  counted_grid s' h g = λ i. record { grid = g i; holds = h.holds i; owner = owner_of b; state = state_of b; waits = waits_of b; next = b.next }

  -- ---- Filled
  module _ (full : is_full (grid_of s b) c ≡ false) (some : nat_eq (wanted (grid_of s b) c) 0 ≡ false) where
    pub filled_state : add (grid_of s b) c ≡ extended (grid_of s b) c
    unfolding add
    filled_state = rw (full, some) refl

    pub filled_change : add_change (grid_of s b) c ≡ extended_change (grid_of s b) c
    unfolding add_change
    filled_change = rw (full, some) refl

    pub filled_answer : add_answer (grid_of s b) c ≡ Changed
    filled_answer = rw (full, some) refl

  -- the holds tell nothing of the regions
  pub bare_owner : (extended (bare s.grid b) c).owner ≡ (extended (grid_of s b) c).owner
  unfolding grid_of is_near target is_greatest target_waits
  bare_owner = refl

  pub bare_state : (extended (bare s.grid b) c).state ≡ (extended (grid_of s b) c).state
  unfolding grid_of is_near target is_greatest target_waits
  bare_state = refl

  pub bare_waits : (extended (bare s.grid b) c).waits ≡ (extended (grid_of s b) c).waits
  unfolding grid_of is_near target is_greatest target_waits
  bare_waits = refl

  pub bare_next : (extended (bare s.grid b) c).next ≡ (extended (grid_of s b) c).next
  unfolding grid_of is_near target is_greatest target_waits
  bare_next = refl

  pub bare_change : extended_change (bare s.grid b) c ≡ extended_change (grid_of s b) c
  unfolding grid_of is_near target is_greatest target_waits
  bare_change = refl

  pub bare_wanted : (q : SectionPos) → is_wanted (bare s.grid b) c q ≡ is_wanted (grid_of s b) c q
  unfolding grid_of
  bare_wanted q = refl

  pub bare_rules : Rules (grid_of s b) → Rules (bare s.grid b)
  unfolding grid_of
  bare_rules h = fewer_keeps (grid_of s b) (λ q. 0) h (λ q. omega arith)

  pub filled_grid : (s' : sections.Table) (b' : Book) → Adds s s' c → s'.grid ≡ s.grid → owner_of b' ≡ (extended (bare s.grid b) c).owner → state_of b' ≡ (extended (bare s.grid b) c).state → waits_of b' ≡ (extended (bare s.grid b) c).waits → b'.next ≡ (extended (bare s.grid b) c).next → grid_of s' b' ≡ extended (grid_of s b) c
  unfolding grid_of
  filled_grid s' b' h g owner state waits next = made ∙ (λ i. record { grid = s.grid; holds = at_chunk (holds_of s) c (holds_of s c + 1); owner = bare_owner i; state = bare_state i; waits = bare_waits i; next = bare_next i }) ∙ same
    where
      made : grid_of s' b' ≡ record { grid = s.grid; holds = at_chunk (holds_of s) c (holds_of s c + 1); owner = (extended (bare s.grid b) c).owner; state = (extended (bare s.grid b) c).state; waits = (extended (bare s.grid b) c).waits; next = (extended (bare s.grid b) c).next }
      made = λ i. record { grid = g i; holds = h.holds i; owner = owner i; state = state i; waits = waits i; next = next i }

      same : record { grid = s.grid; holds = at_chunk (holds_of s) c (holds_of s c + 1); owner = (extended (grid_of s b) c).owner; state = (extended (grid_of s b) c).state; waits = (extended (grid_of s b) c).waits; next = (extended (grid_of s b) c).next } ≡ extended (grid_of s b) c
      same = refl

  module _ (ok : IsGrid s.grid) (limits : is_chunk c ≡ true) (rules : Rules (grid_of s b)) where
    wanted_section : (q : SectionPos) → is_wanted (grid_of s b) c q ≡ true → is_section q ≡ true
    unfolding grid_of
    wanted_section q h = around_in_limits s.grid c q ok limits (leb-true _ _ (and_parts (not (nat_lt 0 (owner_of b q))) (is_within (section_of s.grid c) s.grid.create q) h).1)

    -- the sections that the chunk wants
    pub filled_wanted : (xs : List SectionPos) → xs ≡ filter (is_missing s c) all_sections → xs ≡ filter (is_wanted (bare s.grid b) c) all_sections
    filled_wanted xs e = e ∙ filter_like _ _ (λ q. missing_same q ∙ sym (bare_wanted q)) all_sections

    pub filled_length : (xs : List SectionPos) → xs ≡ filter (is_missing s c) all_sections → length xs ≡ wanted (grid_of s b) c
    unfolding missing_count
    filled_length xs e = ap length e ∙ length-filter (is_missing s c) all_sections ∙ wanted_same

    none_wanted : nat_eq (wanted (grid_of s b) c) 0 ≡ true → (q : SectionPos) → is_wanted (grid_of s b) c q ≡ false
    unfolding wanted
    none_wanted z q = elim (cases_Bool (is_wanted (grid_of s b) c q)) [
      | inl e ↦ let n = eqb-true (count_sections (is_wanted (grid_of s b) c)) 0 z in absurd (omega (arith, n, count_sections-is (is_wanted (grid_of s b) c) q (wanted_section q e) e))
      | inr e ↦ e
    ]

    pub counted_presence : (s' : sections.Table) → Adds s s' c → nat_eq (wanted (grid_of s b) c) 0 ≡ true → IsPresence s' b
    counted_presence s' h z q = ap (λ (f : SectionPos → Bool). f q) h.presence ∙ ap (λ x. presence_of s q || x) (missing_same q ∙ none_wanted z q) ∙ or-false (presence_of s q) ∙ presence q

    owner_now : (q : SectionPos) → nat_lt 0 ((extended (grid_of s b) c).owner q) ≡ (nat_lt 0 (owner_of b q) || is_wanted (grid_of s b) c q)
    unfolding grid_of
    owner_now q =
        let g = grid_of s b in
        let t : 0 < target g c = target_pos g c rules ok limits in
        elim (cases_Bool (is_wanted g c q)) [
          | inl e ↦ ap (λ x. nat_lt 0 (cond (x || is_near_calm g c (owner_of b q)) (target g c) (owner_of b q))) e ∙ lt-ltb 0 (target g c) t ∙ sym (ap (λ x. nat_lt 0 (owner_of b q) || x) e ∙ or-true (nat_lt 0 (owner_of b q)))
          | inr e ↦ ap (λ x. nat_lt 0 (cond (x || is_near_calm g c (owner_of b q)) (target g c) (owner_of b q))) e ∙ elim (cases_Bool (is_near_calm g c (owner_of b q))) [
            | inl f ↦ let n = near_has g c rules ok limits (owner_of b q) (and_parts (is_near g c (owner_of b q)) _ f).0 in
                ap (λ x. nat_lt 0 (cond x (target g c) (owner_of b q))) f ∙ lt-ltb 0 (target g c) t ∙ sym (ap (λ x. nat_lt 0 (owner_of b q) || x) e ∙ or-false (nat_lt 0 (owner_of b q)) ∙ lt-ltb 0 (owner_of b q) n.0)
            | inr f ↦ ap (λ x. nat_lt 0 (cond x (target g c) (owner_of b q))) f ∙ sym (ap (λ x. nat_lt 0 (owner_of b q) || x) e ∙ or-false (nat_lt 0 (owner_of b q)))
          ]
        ]

    pub filled_presence : (s' : sections.Table) (b' : Book) → Adds s s' c → owner_of b' ≡ (extended (bare s.grid b) c).owner → IsPresence s' b'
    filled_presence s' b' h owner q =
        ap (λ (f : SectionPos → Bool). f q) h.presence ∙ (λ i. presence q i || missing_same q i) ∙ sym (ap (λ (f : SectionPos → ℕ). nat_lt 0 (f q)) (owner ∙ bare_owner) ∙ owner_now q)

pub state_grid : (s : sections.Table) (b : Book) → IsGrid s.grid → IsGrid (grid_of s b).grid
unfolding grid_of
state_grid s b h = h
