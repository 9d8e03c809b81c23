-- What an Add that wants sections does to the owners, the states and the pairs.
use Rattle.std.proofs.Common.{◌≡◌, ℕ, ◌+◌, ◌≤◌, ◌<◌, refl, sym, ◌∙◌, ap, arith, true, false, inl, inr, ◌⊎◌, ◌&&◌, ◌||◌, not}
use Rattle.std.specs.Prelude.{◌≢◌, nat_eq}
use Rattle.std.proofs.lemmas.Bool.{cases_Bool, cases_eq, or_cases, or_left, or_right, true≢false, and_parts, and_from, eqb-true, eq-eqb, ltb-true, lt-ltb, le-leb, ne_eqb, leb-true, or_parts, and_left, and_right}
use Rattle.fol_model.specs.declared.places.ChunkPos.{ChunkPos}
use Rattle.fol_model.specs.declared.places.SectionPos.{SectionPos}
use Rattle.fol_model.specs.declared.regions.State.TheVariants.{Transient, Ticking, Dead}
use Rattle.fol_model.specs.Geometry.{distance, is_within, is_chunk, section_of, same_chunk}
use Rattle.fol_model.specs.GridNumbers.{IsGrid}
use Rattle.fol_model.specs.Universe.{all_sections}
use Rattle.fol_model.specs.GridState.{GridState, is_ticking, is_present, size, at_chunk}
use Rattle.fol_model.specs.Counting.{some_below}
use Rattle.fol_model.specs.Add.{is_wanted, is_near, is_near_ticking, is_near_calm, target, target_waits, target_state, extended}
use Rattle.fol_model.specs.Rules.{Rules}
use Rattle.fol_laws.proofs.Distances.{triangle}
use Rattle.fol_laws.proofs.SamePlaces.{same_chunk-true}
use Rattle.fol_laws.proofs.NumbersBelow.{some_below-is, some_below-gives}
use Rattle.fol_laws.proofs.ListCounts.{count_by-mono}
use Rattle.fol_laws.proofs.AddTarget.{near_has, near_from, calm_below, target_is, target_pos, is_ticking-true}

module _ (g : GridState) (c : ChunkPos) (rules : Rules g) (ok : IsGrid g.grid) (limits : is_chunk c ≡ true) where
  -- a region that is not Dead and stays what it is
  pub record Stays (r : ℕ) : Type 0 where
    pub apart : r ≢ target g c
    pub calm : is_near_calm g c r ≡ false

  live_apart : (r : ℕ) → g.state r ≢ Dead → is_near_calm g c r ≡ false → r ≢ target g c
  live_apart r l h e = elim (target_is g c rules ok limits) [
    | inl k ↦ true≢false (sym k ∙ ap (is_near_calm g c) (sym e) ∙ h)
    | inr k ↦ let a : r < g.next = rules.below_next r l in absurd (omega (arith, k.0))
  ]

  pub live_stays : (r : ℕ) → g.state r ≢ Dead → is_near_calm g c r ≡ false → Stays r
  live_stays r l h = record { apart = live_apart r l h; calm = h }

  pub state_target : (extended g c).state (target g c) ≡ target_state g c
  state_target = let e : nat_eq (target g c) (target g c) ≡ true = eq-eqb _ _ refl in rw e refl

  pub state_stays : (r : ℕ) → Stays r → (extended g c).state r ≡ g.state r
  state_stays r s = let e : nat_eq (target g c) r ≡ false = ne_eqb _ _ (λ x. s.apart (sym x)) in rw (e, s.calm) refl

  pub waits_target : (v : ℕ) → (extended g c).waits (target g c) v ≡ target_waits g c v
  waits_target v = let e : nat_eq (target g c) (target g c) ≡ true = eq-eqb _ _ refl in rw e refl

  pub waits_stays : (u v : ℕ) → Stays u → (extended g c).waits u v ≡ g.waits u v
  waits_stays u v s = let e : nat_eq (target g c) u ≡ false = ne_eqb _ _ (λ x. s.apart (sym x)) in rw (e, s.calm) refl

  -- the live regions after it
  pub lives_after : (r : ℕ) → (extended g c).state r ≢ Dead → (r ≡ target g c) ⊎ (Stays r × (g.state r ≢ Dead))
  lives_after r l = elim (cases_eq r (target g c)) [
    | inl e ↦ inl e
    | inr n ↦ elim (cases_Bool (is_near_calm g c r)) [
      | inl k ↦ let e : nat_eq (target g c) r ≡ false = ne_eqb _ _ (λ x. n (sym x)) in absurd (l (rw (e, k) refl))
      | inr k ↦ let s : Stays r = record { apart = n; calm = k } in inr (s, λ d. l (state_stays r s ∙ d))
    ]
  ]

  pub record OwnerStays (s : SectionPos) : Type 0 where
    pub same : (extended g c).owner s ≡ g.owner s
    pub present : 0 < g.owner s
    pub region : Stays (g.owner s)

  -- a section that is present after it
  pub owner_after : (s : SectionPos) → 0 < (extended g c).owner s → ((extended g c).owner s ≡ target g c) ⊎ OwnerStays s
  owner_after s p = elim (cases_Bool (is_wanted g c s || is_near_calm g c (g.owner s))) [
    | inl e ↦ inl (rw e refl)
    | inr e ↦ let same : (extended g c).owner s ≡ g.owner s = rw e refl in
        let here : 0 < g.owner s = rw same at p in
        inr (record { same = same; present = here; region = live_stays (g.owner s) (rules.owner_lives s here) (or_parts _ _ e).1 })
  ]

  near_ticking_waits : (v : ℕ) → is_near g c v ≡ true → g.state v ≡ Ticking → target_waits g c v ≡ true
  unfolding target_waits
  near_ticking_waits v n t = or_left _ _ (and_from _ _ n (ap is_ticking t))

  joined_waits : (u v : ℕ) → is_near_calm g c u ≡ true → g.waits u v ≡ true → target_waits g c v ≡ true
  unfolding target_waits
  joined_waits u v k w = or_right _ _ (some_below-is _ g.next u (calm_below g c rules ok limits u k) (and_from _ _ k w))

  -- what the target waits for is Ticking
  pub target_awaits : (v : ℕ) → target_waits g c v ≡ true → g.state v ≡ Ticking
  unfolding target_waits
  target_awaits v h = elim (or_cases (is_near_ticking g c v) (some_below (λ u. is_near_calm g c u && g.waits u v) g.next) h) [
    | inl e ↦ is_ticking-true _ (and_parts (is_near g c v) (is_ticking (g.state v)) e).1
    | inr e ↦ let u = some_below-gives (λ u. is_near_calm g c u && g.waits u v) g.next e in rules.awaited u.0 v (and_parts (is_near_calm g c u.0) _ u.2).1
  ]

  pub ticking_stays : (v : ℕ) → g.state v ≡ Ticking → Stays v
  ticking_stays v t = live_stays v (λ d. cc) (let e : is_ticking (g.state v) ≡ true = ap is_ticking t in and_right (is_near g c v) (not (is_ticking (g.state v))) (rw e refl))

  ticking_below : (v : ℕ) → g.state v ≡ Ticking → v < g.next
  ticking_below v t = rules.below_next v (λ d. cc)

  pub target_transient : (v : ℕ) → target_waits g c v ≡ true → target_state g c ≡ Transient
  target_transient v h = let e = some_below-is (target_waits g c) g.next v (ticking_below v (target_awaits v h)) h in rw e refl

  pub target_lives : target_state g c ≢ Dead
  target_lives = elim (cases_Bool (some_below (target_waits g c) g.next)) [ inl e ↦ rw e (λ d. cc) | inr e ↦ rw e (λ d. cc) ]

  -- a near section's region becomes the target, or the target waits for it
  pub near_region : (b : SectionPos) → OwnerStays b → distance (section_of g.grid c) b ≤ g.grid.create + g.grid.merge → target_waits g c (g.owner b) ≡ true
  near_region b s d =
      let n = near_from g c rules ok limits b s.present d in
      elim (cases_Bool (is_ticking (g.state (g.owner b)))) [
        | inl e ↦ near_ticking_waits (g.owner b) n (is_ticking-true _ e)
        | inr e ↦ absurd (true≢false (sym (and_from _ _ n (rw e refl)) ∙ s.region.calm))
      ]

  -- the pairs after it
  pub waits_after : (u v : ℕ) → (extended g c).waits u v ≡ true → ((u ≡ target g c) × (target_waits g c v ≡ true)) ⊎ (Stays u × (g.waits u v ≡ true))
  waits_after u v h = elim (cases_eq u (target g c)) [
    | inl e ↦ inl (e, sym (waits_target v) ∙ (rw e at h))
    | inr n ↦ let e : nat_eq (target g c) u ≡ false = ne_eqb _ _ (λ x. n (sym x)) in
        elim (cases_Bool (is_near_calm g c u)) [
          | inl k ↦ let dead : (extended g c).waits u v ≡ false = rw (e, k) refl in absurd (true≢false (sym h ∙ dead))
          | inr k ↦ let s : Stays u = record { apart = n; calm = k } in inr (s, sym (waits_stays u v s) ∙ h)
        ]
  ]

  pub stays_owner : (s : SectionPos) (r : ℕ) → g.owner s ≡ r → 0 < r → Stays r → (extended g c).owner s ≡ r
  stays_owner s r e p k =
      let here : is_present g s ≡ true = lt-ltb 0 _ (rw e p) in
      let calm : is_near_calm g c (g.owner s) ≡ false = rw e k.calm in
      let w : is_wanted g c s ≡ false = and_left (not (is_present g s)) (is_within (section_of g.grid c) g.grid.create s) (rw here refl) in
      rw (w, calm) e

  pub size_grows : (r : ℕ) → 0 < r → Stays r → size g r ≤ size (extended g c) r
  size_grows r p k = count_by-mono _ _ (λ s h. eq-eqb _ _ (stays_owner s r (eqb-true _ _ h) p k)) all_sections

  pub target_owner : (s : SectionPos) → is_wanted g c s ≡ true → (extended g c).owner s ≡ target g c
  target_owner s w = rw w refl

  -- an added hold: what was loaded, or the chunk
  pub loaded_after : (q : ChunkPos) → 0 < at_chunk g.holds c (g.holds c + 1) q → (q ≡ c) ⊎ (0 < g.holds q)
  loaded_after q h = elim (cases_Bool (same_chunk c q)) [
    | inl e ↦ inl (sym (same_chunk-true c q e))
    | inr e ↦ inr (rw e at h)
  ]

  pub present_after : (s : SectionPos) → 0 < g.owner s → 0 < (extended g c).owner s
  present_after s p = elim (cases_Bool (is_wanted g c s || is_near_calm g c (g.owner s))) [
    | inl e ↦ rw e (target_pos g c rules ok limits)
    | inr e ↦ rw e p
  ]

  -- each section within the create radius of the chunk is present after it
  pub around_present : (s : SectionPos) → distance (section_of g.grid c) s ≤ g.grid.create → 0 < (extended g c).owner s
  around_present s d = elim (cases_Bool (is_present g s)) [
    | inl e ↦ present_after s (ltb-true _ _ e)
    | inr e ↦ let w : is_wanted g c s ≡ true = and_from _ _ (rw e refl) (le-leb _ _ d) in rw (target_owner s w) (target_pos g c rules ok limits)
  ]

  -- where the target waits for none, it has each section within the create radius of the chunk
  pub around_target : ((v : ℕ) → target_waits g c v ≡ false) → (s : SectionPos) → distance (section_of g.grid c) s ≤ g.grid.create → (extended g c).owner s ≡ target g c
  around_target none s d = elim (owner_after s (around_present s d)) [
    | inl e ↦ e
    | inr k ↦ absurd (true≢false (sym (near_region s k (omega arith)) ∙ none _))
  ]

  joined_beside : (a b : SectionPos) → is_near_calm g c (g.owner a) ≡ true → OwnerStays b → distance a b ≤ g.grid.merge → target_waits g c (g.owner b) ≡ true
  joined_beside a b k kb d =
      let parts = and_parts (is_near g c (g.owner a)) (not (is_ticking (g.state (g.owner a)))) k in
      let p = (near_has g c rules ok limits (g.owner a) parts.0).0 in
      elim (or_cases (nat_eq (g.owner a) (g.owner b)) _ (rules.together a b p kb.present d)) [
        | inl e ↦ let same : g.owner a ≡ g.owner b = eqb-true _ _ e in absurd (true≢false (sym (rw same at k) ∙ kb.region.calm))
        | inr e ↦ elim (or_cases (g.waits (g.owner a) (g.owner b)) (g.waits (g.owner b) (g.owner a)) e) [
          | inl w ↦ joined_waits (g.owner a) (g.owner b) k w
          | inr w ↦ let t : g.state (g.owner a) ≡ Ticking = rules.awaited (g.owner b) (g.owner a) w in
              let e : is_ticking (g.state (g.owner a)) ≡ true = ap is_ticking t in
              let f : not (is_ticking (g.state (g.owner a))) ≡ false = rw e refl in absurd (true≢false (sym parts.1 ∙ f))
        ]
      ]

  -- beside a section that became the target's: the target waits for the region
  pub beside : (a b : SectionPos) → (extended g c).owner a ≡ target g c → 0 < (extended g c).owner a → OwnerStays b → distance a b ≤ g.grid.merge → target_waits g c (g.owner b) ≡ true
  beside a b ea pa kb d = elim (cases_Bool (is_wanted g c a)) [
    | inl w ↦ let n : distance (section_of g.grid c) a ≤ g.grid.create = leb-true _ _ (and_parts (not (is_present g a)) _ w).1 in
        near_region b kb (omega (arith, triangle (section_of g.grid c) a b))
    | inr w ↦ elim (cases_Bool (is_near_calm g c (g.owner a))) [
      | inl k ↦ joined_beside a b k kb d
      | inr k ↦ let same : (extended g c).owner a ≡ g.owner a = rw (w, k) refl in
          let p : 0 < g.owner a = rw same at pa in
          absurd (live_apart (g.owner a) (rules.owner_lives a p) k (sym same ∙ ea))
    ]
  ]
