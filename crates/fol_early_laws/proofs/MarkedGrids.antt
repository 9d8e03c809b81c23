-- The steps of the grid before and after the Begins of the marked regions: an Add that draws no marked region in, and a release that none joins.
use Rattle.std.proofs.Common.{List, [], ◌∷◌, ◌≡◌, ◌≢◌, ℕ, ◌+◌, refl, ◌∙◌, ap, Bool, true, false, inl, inr, not, ◌&&◌, ◌||◌}
use Rattle.std.specs.Prelude.{nat_eq, nat_lt, nat_le, length, if◌then◌else◌}
use Rattle.std.specs.List.{position_or_len}
use Rattle.std.proofs.lemmas.Bool.{cases_Bool, ne_eqb}
use Rattle.fol_model.specs.Counting.{count_below, some_below, least}
use Rattle.fol_model.specs.declared.places.SectionPos.{SectionPos}
use Rattle.fol_model.specs.Universe.{all_sections, some_section}
use Rattle.fol_model.specs.Release.{cleaned, cleans, held, is_leader, is_new_part, is_part_id, joined_owner, leader, must_wait, part_of, parts, passes_on, release, remains, rested, through}
use Rattle.fol_model.specs.declared.places.ChunkPos.{ChunkPos}
use Rattle.fol_model.specs.declared.regions.State.TheVariants.{Transient, Ready, Ticking, Dead}
use Rattle.fol_model.specs.GridState.{GridState, at_chunk, in_margin, is_ticking, size}
use Rattle.fol_early_laws.specs.EarlyBegins.{marked_grid}
use Rattle.fol_model.specs.Add.{add, extended, is_full, is_greatest, is_near, is_near_calm, is_near_ticking, is_wanted, target, target_waits, wanted}

module _ (g : GridState) (c : ChunkPos) (p : ℕ → Bool) where
  near_same : (r : ℕ) → is_near (marked_grid g p) c r ≡ is_near g c r
  unfolding is_near
  near_same r = refl

  pub full_same : is_full (marked_grid g p) c ≡ is_full g c
  unfolding is_full wanted
  full_same = refl

  pub wanted_same : wanted (marked_grid g p) c ≡ wanted g c
  unfolding wanted
  wanted_same = refl

  module _ (far : (r : ℕ) → p r ≡ true → is_near g c r ≡ false) (apart : (r : ℕ) → p r ≡ true → target g c ≢ r) where
    pub calm_at : (r : ℕ) → is_near_calm (marked_grid g p) c r ≡ is_near_calm g c r
    calm_at r = ap (λ b. b && not (is_ticking (if p r then Ticking else g.state r))) (near_same r)
        ∙ elim (cases_Bool (p r)) [ inl k ↦ let n = far r k in rw n refl | inr k ↦ rw k refl ]

    ticking_at : (r : ℕ) → is_near_ticking (marked_grid g p) c r ≡ is_near_ticking g c r
    ticking_at r = ap (λ b. b && is_ticking (if p r then Ticking else g.state r)) (near_same r)
        ∙ elim (cases_Bool (p r)) [ inl k ↦ let n = far r k in rw n refl | inr k ↦ rw k refl ]

    greatest_at : (r : ℕ) → is_greatest (marked_grid g p) c r ≡ is_greatest g c r
    unfolding is_greatest
    greatest_at r = λ i. calm_at r i && not (some_below (λ q. calm_at q i && nat_lt (size g r) (size g q)) g.next)

    pub target_at : target (marked_grid g p) c ≡ target g c
    unfolding target
    target_at = λ i. least (λ r. greatest_at r i) g.next

    waits_at : (t : ℕ) → target_waits (marked_grid g p) c t ≡ target_waits g c t
    unfolding target_waits
    waits_at t = λ i. ticking_at t i || some_below (λ u. calm_at u i && g.waits u t) g.next

    state_at : (r : ℕ) → (extended (marked_grid g p) c).state r ≡ (if p r then Ticking else (extended g c).state r)
    state_at r = (λ i. if nat_eq (target_at i) r then (if some_below (λ t. waits_at t i) g.next then Transient else Ready) else (if calm_at r i then Dead else (if p r then Ticking else g.state r)))
        ∙ elim (cases_Bool (p r)) [
          | inl k ↦ let n = far r k in let e : nat_eq (target g c) r ≡ false = ne_eqb (target g c) r (apart r k) in rw (k, e, n) refl
          | inr k ↦ rw k refl
        ]

    extended_same : extended (marked_grid g p) c ≡ marked_grid (extended g c) p
    extended_same = λ i. record {
      grid = g.grid;
      holds = at_chunk g.holds c (g.holds c + 1);
      owner = λ s. if (is_wanted g c s || calm_at (g.owner s) i) then target_at i else g.owner s;
      state = λ r. state_at r i;
      waits = λ u t. if nat_eq (target_at i) u then waits_at t i else (not (calm_at u i) && g.waits u t);
      next = if nat_eq (target_at i) g.next then g.next + 1 else g.next;
    }

  -- where the Add extends a region, no marked one is near, and none is the target
  pub add_same : (is_full g c ≡ false → nat_eq (wanted g c) 0 ≡ false → ((r : ℕ) → p r ≡ true → is_near g c r ≡ false) × ((r : ℕ) → p r ≡ true → target g c ≢ r))
      → add (marked_grid g p) c ≡ marked_grid (add g c) p
  unfolding add
  add_same h = let a = full_same in let b = wanted_same in elim (cases_Bool (is_full g c)) [
    | inl f ↦ rw (a, f) refl
    | inr f ↦ elim (cases_Bool (nat_eq (wanted g c) 0)) [ inl k ↦ rw (a, f, b, k) refl | inr k ↦ let d = h f k in rw (a, f, b, k) (extended_same d.0 d.1) ]
  ]

-- ---- a release of a region, where no marked one is the region, joins it, or is one of the parts
module _ (g : GridState) (t : ℕ) (p : ℕ → Bool) where
  through_same : (ms : List SectionPos) (a b : SectionPos) → through (marked_grid g p) t ms a b ≡ through g t ms a b
  unfolding through in_margin
  through_same [] a b = refl
  through_same (m ∷ ms) a b = λ i. through_same ms a b i || (through_same ms a m i && through_same ms m b i)

  leader_same : (s : SectionPos) → leader (marked_grid g p) t s ≡ leader g t s
  unfolding leader in_margin
  leader_same s = λ i. position_or_len (λ q. remains g t q && through_same all_sections q s i) all_sections

  is_leader_same : (k : ℕ) → is_leader (marked_grid g p) t k ≡ is_leader g t k
  unfolding is_leader in_margin
  is_leader_same k = λ i. some_section (λ s. remains g t s && nat_eq (leader_same s i) k)

  parts_same : parts (marked_grid g p) t ≡ parts g t
  unfolding parts
  parts_same = λ i. count_below (λ k. is_leader_same k i) (length all_sections)

  part_of_same : (s : SectionPos) → part_of (marked_grid g p) t s ≡ part_of g t s
  unfolding part_of
  part_of_same s = λ i. count_below (λ k. is_leader_same k i) (leader_same s i)

  waits_same : must_wait (marked_grid g p) t ≡ must_wait g t
  unfolding passes_on
  waits_same = refl

  pub cleans_same : cleans (marked_grid g p) t ≡ cleans g t
  unfolding cleans in_margin
  cleans_same = refl

  pub new_part_same : (r : ℕ) → is_new_part (marked_grid g p) t r ≡ is_new_part g t r
  new_part_same r = λ i. (not (waits_same i) && cleans_same i) && (nat_le 2 (parts_same i) && (nat_le g.next r && nat_lt r (g.next + parts_same i)))

  module _ (apart : (r : ℕ) → p r ≡ true → nat_eq r t ≡ false) (joins : (r : ℕ) → p r ≡ true → g.waits r t ≡ false) (fresh : (r : ℕ) → p r ≡ true → is_part_id g t r ≡ false) where
    held_state : (r : ℕ) → (if nat_eq r t then Transient else (if g.waits r t then Dead else (if p r then Ticking else g.state r))) ≡ (if p r then Ticking else (held g t).state r)
    held_state r = elim (cases_Bool (p r)) [ inl k ↦ let a = apart r k in let b = joins r k in rw (k, a, b) refl | inr k ↦ rw k refl ]

    held_same : held (marked_grid g p) t ≡ marked_grid (held g t) p
    unfolding passes_on
    held_same = λ i. record (held g t) { state = λ r. held_state r i }

    rested_state : (r : ℕ) → (if nat_eq r t then Ready else (if p r then Ticking else g.state r)) ≡ (if p r then Ticking else (rested g t).state r)
    rested_state r = elim (cases_Bool (p r)) [ inl k ↦ let a = apart r k in rw (k, a) refl | inr k ↦ rw k refl ]

    rested_same : rested (marked_grid g p) t ≡ marked_grid (rested g t) p
    rested_same = λ i. record g { state = λ r. rested_state r i }

    cleaned_state : (r : ℕ) → (if is_part_id g t r then Ready else (if nat_eq r t then (if nat_eq (parts g t) 1 then Ready else Dead) else (if g.waits r t then Dead else (if p r then Ticking else g.state r)))) ≡ (if p r then Ticking else (cleaned g t).state r)
    cleaned_state r = elim (cases_Bool (p r)) [ inl k ↦ let a = apart r k in let b = joins r k in let c = fresh r k in rw (k, c, a, b) refl | inr k ↦ rw k refl ]

    cleaned_parts : cleaned (marked_grid g p) t ≡ record (cleaned g t) { state = λ r. if is_part_id g t r then Ready else (if nat_eq r t then (if nat_eq (parts g t) 1 then Ready else Dead) else (if g.waits r t then Dead else (if p r then Ticking else g.state r))) }
    unfolding passes_on in_margin
    cleaned_parts = λ i. record (cleaned g t) {
      owner = λ s. if nat_eq (joined_owner g t s) t then (if in_margin g s then (if nat_eq (parts_same i) 1 then t else g.next + part_of_same s i) else 0) else g.owner s;
      state = λ r. if nat_le 2 (parts_same i) && (nat_le g.next r && nat_lt r (g.next + parts_same i)) then Ready else (if nat_eq r t then (if nat_eq (parts_same i) 1 then Ready else Dead) else (if g.waits r t then Dead else (if p r then Ticking else g.state r)));
      next = if nat_le 2 (parts_same i) then g.next + parts_same i else g.next;
    }

    cleaned_same : cleaned (marked_grid g p) t ≡ marked_grid (cleaned g t) p
    cleaned_same = cleaned_parts ∙ (λ i. record (cleaned g t) { state = λ r. cleaned_state r i })

    pub release_same : release (marked_grid g p) t ≡ marked_grid (release g t) p
    unfolding release
    release_same = let a = waits_same in let b = cleans_same in elim (cases_Bool (must_wait g t)) [
      | inl w ↦ rw (a, w) held_same
      | inr w ↦ elim (cases_Bool (cleans g t)) [ inl k ↦ rw (a, w, b, k) cleaned_same | inr k ↦ rw (a, w, b, k) rested_same ]
    ]
