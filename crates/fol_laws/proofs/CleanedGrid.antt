-- What a cleaning at the end of a tick does: the parts, their ids, and the owners and states after it.
use Rattle.std.proofs.Common.{◌≡◌, ℕ, zero, suc, ◌+◌, ◌-◌, ◌≤◌, ◌<◌, refl, sym, ◌∙◌, ap, arith, true, false, inl, inr, ◌⊎◌, ◌&&◌}
use Rattle.std.specs.Prelude.{◌≢◌, nat_eq, nat_lt, nat_le, if◌then◌else◌}
use Rattle.std.proofs.lemmas.Bool.{cases_Bool, cases_eq, true≢false, and_parts, and_from, and_left, and_right, eqb-true, eq-eqb, ne_eqb, ltb-true, lt-ltb, le-leb, lt-leb, leb-true}
use Rattle.fol_model.specs.declared.places.ChunkPos.{ChunkPos}
use Rattle.fol_model.specs.declared.places.SectionPos.{SectionPos}
use Rattle.fol_model.specs.declared.regions.State.TheVariants.{Ready, Ticking, Dead}
use Rattle.fol_model.specs.Geometry.{distance, is_within, section_of}
use Rattle.fol_model.specs.GridNumbers.{IsGrid}
use Rattle.fol_model.specs.Universe.{all_sections, all_chunks}
use Rattle.fol_model.specs.GridState.{GridState, is_loaded, in_margin, size}
use Rattle.fol_model.specs.Release.{joined_owner, passes_on, must_wait, remains, parts, part_of, part_id, is_part_id, cleaned}
use Rattle.fol_model.specs.Rules.{Rules}
use Rattle.fol_laws.proofs.Distances.{no_distance, nearer}
use Rattle.fol_laws.proofs.NumbersBelow.{some_below-is}
use Rattle.fol_laws.proofs.ListCounts.{count_by-mono, list_any-gives}
use Rattle.fol_laws.proofs.AllSections.{some_chunk-is, nine_sections}
use Rattle.fol_laws.proofs.Linked.{part_below, part_at, same_part}
use Rattle.fol_laws.proofs.Joins as joins

module _ (g : GridState) (t : ℕ) (rules : Rules g) (ok : IsGrid g.grid) (ticks : g.state t ≡ Ticking) (free : must_wait g t ≡ false) where
  abbrev Apart : ℕ → Type 0
  Apart = joins.Apart g t rules ticks

  abbrev OwnerApart : SectionPos → Type 0
  OwnerApart = joins.OwnerApart g t rules ticks

  pub none_pass : (v : ℕ) → passes_on g t v ≡ false
  none_pass v = elim (cases_Bool (passes_on g t v)) [
    | inl h ↦ let p = joins.passed_ticking g t rules ticks v h in let e = p.0 in
        let b : v < g.next = rules.below_next v (λ d. cc) in absurd (true≢false (sym (some_below-is (passes_on g t) g.next v b h) ∙ free))
    | inr h ↦ h
  ]

  -- what lies within the merge radius of a section of t is t's
  pub grows : (a b : SectionPos) → 0 < g.owner a → 0 < g.owner b → joined_owner g t a ≡ t → distance a b ≤ g.grid.merge → joined_owner g t b ≡ t
  grows a b pa pb ea d = elim (joins.owner_joined g t rules ticks b) [
    | inl e ↦ e
    | inr k ↦ absurd (true≢false (sym (joins.beside_joined g t rules ticks a b pa pb ea k d) ∙ none_pass (g.owner b)))
  ]

  pub margin_from : (c : ChunkPos) (s : SectionPos) → 0 < g.holds c → distance (section_of g.grid c) s ≤ g.grid.create → in_margin g s ≡ true
  unfolding in_margin
  margin_from c s h d = some_chunk-is (λ c. is_loaded g c && is_within (section_of g.grid c) g.grid.create s) c (rules.chunk_limits c h) (and_from _ _ (lt-ltb 0 _ h) (le-leb _ _ d))

  margin_gives : (s : SectionPos) → in_margin g s ≡ true → (c : ChunkPos) × (0 < g.holds c) × (distance (section_of g.grid c) s ≤ g.grid.create)
  unfolding in_margin
  margin_gives s h =
      let c = list_any-gives (λ c. is_loaded g c && is_within (section_of g.grid c) g.grid.create s) all_chunks h in
      let both = and_parts (is_loaded g c.0) (is_within (section_of g.grid c.0) g.grid.create s) c.1 in
      (c.0, ltb-true _ _ both.0, leb-true _ _ both.1)

  pub remains_owner : (s : SectionPos) → remains g t s ≡ true → joined_owner g t s ≡ t
  remains_owner s r = eqb-true _ _ (and_parts (nat_eq (joined_owner g t s) t) (in_margin g s) r).0

  remains_present : (s : SectionPos) → remains g t s ≡ true → 0 < g.owner s
  remains_present s r = joins.present_joined g t rules ticks s (let e = remains_owner s r in rw e (joins.t_pos g t rules ticks))

  -- ---- the ids of the parts
  pub part_id_same : (a b : SectionPos) → remains g t a ≡ true → remains g t b ≡ true → distance a b ≤ g.grid.merge → part_id g t a ≡ part_id g t b
  part_id_same a b ra rb d = ap (λ k. if nat_eq (parts g t) 1 then t else g.next + k) (same_part g t a b (joins.remains_in g t rules ticks a ra) (joins.remains_in g t rules ticks b rb) ra rb d)

  pub record Part (r : ℕ) : Type 0 where
    pub some : SectionPos
    pub stays : remains g t some ≡ true
    pub is : part_id g t some ≡ r

  pub part_cases : (s : SectionPos) → remains g t s ≡ true
      → ((parts g t ≡ 1) × (part_id g t s ≡ t)) ⊎ ((2 ≤ parts g t) × (part_id g t s ≡ g.next + part_of g t s) × (part_of g t s < parts g t))
  part_cases s r =
      let b = part_below g t s (joins.remains_in g t rules ticks s r) r in
      elim (cases_eq (parts g t) 1) [
        | inl e ↦ let k : nat_eq (parts g t) 1 ≡ true = eq-eqb _ _ e in inl (e, rw k refl)
        | inr n ↦ let k : nat_eq (parts g t) 1 ≡ false = ne_eqb _ _ n in inr (omega arith, rw k refl, b)
      ]

  pub part_pos : (s : SectionPos) → remains g t s ≡ true → 0 < part_id g t s
  part_pos s r = elim (part_cases s r) [
    | inl h ↦ let e = h.1 in rw e (joins.t_pos g t rules ticks)
    | inr h ↦ let e = h.1 in rw e (omega (arith, rules.next_id))
  ]

  pub part_below_next : (s : SectionPos) → remains g t s ≡ true → part_id g t s < (cleaned g t).next
  part_below_next s r = elim (part_cases s r) [
    | inl h ↦ let e = h.1 in let k : nat_le 2 (parts g t) ≡ false = lt-leb _ _ (omega (arith, h.0)) in rw (e, k) (joins.t_below g t rules ticks)
    | inr h ↦ let e = h.1 in let k : nat_le 2 (parts g t) ≡ true = le-leb _ _ h.0 in rw (e, k) (omega (arith, h.2))
  ]

  pub cleaned_next : g.next ≤ (cleaned g t).next
  cleaned_next = elim (cases_Bool (nat_le 2 (parts g t))) [ inl k ↦ rw k (omega arith) | inr k ↦ rw k (omega arith) ]

  pub part_ready : (s : SectionPos) → remains g t s ≡ true → (cleaned g t).state (part_id g t s) ≡ Ready
  part_ready s r = elim (part_cases s r) [
    | inl h ↦ let e = h.1 in
        let one : nat_eq (parts g t) 1 ≡ true = eq-eqb _ _ h.0 in
        let few : nat_le 2 (parts g t) ≡ false = lt-leb _ _ (omega (arith, h.0)) in
        let it : nat_eq t t ≡ true = eq-eqb _ _ refl in
        let p : is_part_id g t t ≡ false = and_left _ (nat_le g.next t && nat_lt t (g.next + parts g t)) few in
        rw (e, p, it, one) refl
    | inr h ↦ let e = h.1 in
        let p : is_part_id g t (g.next + part_of g t s) ≡ true = and_from _ _ (le-leb _ _ h.0) (and_from _ _ (le-leb g.next (g.next + part_of g t s) (omega arith)) (lt-ltb _ _ (omega (arith, h.2)))) in
        rw (e, p) refl
  ]

  old_id : (r : ℕ) → r < g.next → is_part_id g t r ≡ false
  old_id r l = let k : nat_le g.next r ≡ false = lt-leb _ _ l in and_right (nat_le 2 (parts g t)) _ (and_left _ (nat_lt r (g.next + parts g t)) k)

  pub state_apart : (r : ℕ) → Apart r → g.state r ≢ Dead → (cleaned g t).state r ≡ g.state r
  state_apart r a l =
      let p = old_id r (rules.below_next r l) in
      let n : nat_eq r t ≡ false = ne_eqb _ _ a.differs in
      let f = a.free in rw (p, n, f) refl

  -- the live regions after it
  pub lives_cleaned : (r : ℕ) → (cleaned g t).state r ≢ Dead → Part r ⊎ (Apart r × (g.state r ≢ Dead))
  lives_cleaned r l = elim (cases_Bool (is_part_id g t r)) [
    | inl p ↦
        let x = and_parts (nat_le 2 (parts g t)) (nat_le g.next r && nat_lt r (g.next + parts g t)) p in
        let y = and_parts (nat_le g.next r) (nat_lt r (g.next + parts g t)) x.1 in
        let two : 2 ≤ parts g t = leb-true _ _ x.0 in
        let low : g.next ≤ r = leb-true _ _ y.0 in
        let high : r < g.next + parts g t = ltb-true _ _ y.1 in
        let s = part_at g t (r - g.next) (omega arith) in
        let k : nat_eq (parts g t) 1 ≡ false = ne_eqb _ _ (λ e. omega arith) in
        inl (record { some = s.0; stays = s.2; is = rw k (omega (arith, s.3)) })
    | inr p ↦ elim (joins.apart_cases g t rules ticks r) [
      | inl e ↦ elim (cases_Bool (nat_eq (parts g t) 1)) [
        | inl one ↦ let s = part_at g t 0 (omega (arith, eqb-true _ _ one)) in inl (record { some = s.0; stays = s.2; is = rw one (sym e) })
        | inr one ↦ let k : nat_eq r t ≡ true = eq-eqb _ _ e in absurd (l (rw (p, k, one) refl))
      ]
      | inr h ↦ elim h [
        | inl w ↦ let n : nat_eq r t ≡ false = ne_eqb _ _ (λ e. let x : g.waits t t ≡ true = rw e at w in true≢false (sym x ∙ joins.t_waits_none g t rules ticks t)) in
            absurd (l (rw (p, n, w) refl))
        | inr a ↦ let n : nat_eq r t ≡ false = ne_eqb _ _ a.differs in let f = a.free in
            inr (a, λ d. l (rw (p, n, f) d))
      ]
    ]
  ]

  -- ---- the sections
  pub record InPart (s : SectionPos) : Type 0 where
    pub stays : remains g t s ≡ true
    pub is : (cleaned g t).owner s ≡ part_id g t s

  pub record Beside (s : SectionPos) : Type 0 where
    pub is : (cleaned g t).owner s ≡ g.owner s
    pub apart : OwnerApart s

  pub stays_in_part : (s : SectionPos) → remains g t s ≡ true → (cleaned g t).owner s ≡ part_id g t s
  stays_in_part s r =
      let both = and_parts (nat_eq (joined_owner g t s) t) (in_margin g s) r in let x = both.0 in let y = both.1 in rw (x, y) refl

  pub stays_apart : (s : SectionPos) → OwnerApart s → (cleaned g t).owner s ≡ g.owner s
  stays_apart s k =
      let n : nat_eq (joined_owner g t s) t ≡ false = ne_eqb _ _ (λ e. k.region.differs (sym k.same ∙ e)) in rw n refl

  pub owner_cleaned : (s : SectionPos) → 0 < (cleaned g t).owner s → InPart s ⊎ Beside s
  owner_cleaned s p = elim (joins.owner_joined g t rules ticks s) [
    | inl e ↦ let x : nat_eq (joined_owner g t s) t ≡ true = eq-eqb _ _ e in
        elim (cases_Bool (in_margin g s)) [
          | inl m ↦ let r : remains g t s ≡ true = and_from _ _ x m in inl (record { stays = r; is = stays_in_part s r })
          | inr m ↦ let z : (cleaned g t).owner s ≡ 0 = rw (x, m) refl in absurd (omega arith)
        ]
    | inr k ↦ inr (record { is = stays_apart s k; apart = k })
  ]

  pub was_present : (s : SectionPos) → 0 < (cleaned g t).owner s → 0 < g.owner s
  was_present s p = elim (owner_cleaned s p) [ inl k ↦ remains_present s k.stays | inr k ↦ let e = k.is in rw e at p ]

  -- the section of a loaded chunk, and all around it, are in one part
  around : (c : ChunkPos) (h : 0 < g.holds c) (k : ℕ) (q : SectionPos) → k ≤ g.grid.create → distance (section_of g.grid c) q ≤ k → remains g t q ≡ true
      → (remains g t (section_of g.grid c) ≡ true) × (part_id g t (section_of g.grid c) ≡ part_id g t q)
  around c h zero q l d r = let e = no_distance (section_of g.grid c) q d in rw e (r, refl)
  around c h (suc k) q l d r =
      let p = nearer (section_of g.grid c) q k d in
      let near : distance (section_of g.grid c) p.0 ≤ g.grid.create = omega (arith, p.1) in
      let step : distance q p.0 ≤ g.grid.merge = omega (arith, p.2, ok.merge_low) in
      let o = grows q p.0 (remains_present q r) (rules.margin c p.0 h near) (remains_owner q r) step in
      let rp : remains g t p.0 ≡ true = and_from _ _ (eq-eqb _ _ o) (margin_from c p.0 h near) in
      let rest = around c h k p.0 (omega arith) p.1 rp in
      (rest.0, rest.1 ∙ sym (part_id_same q p.0 r rp step))

  beside_center : (c : ChunkPos) (h : 0 < g.holds c) (q : SectionPos) → remains g t (section_of g.grid c) ≡ true → distance (section_of g.grid c) q ≤ 1
      → (remains g t q ≡ true) × (part_id g t (section_of g.grid c) ≡ part_id g t q)
  beside_center c h q r d =
      let near : distance (section_of g.grid c) q ≤ g.grid.create = omega (arith, ok.create_low) in
      let step : distance (section_of g.grid c) q ≤ g.grid.merge = omega (arith, ok.merge_low) in
      let o = grows (section_of g.grid c) q (remains_present _ r) (rules.margin c q h near) (remains_owner _ r) step in
      let rq : remains g t q ≡ true = and_from _ _ (eq-eqb _ _ o) (margin_from c q h near) in
      (rq, part_id_same (section_of g.grid c) q r rq step)

  pub part_nine : (r : ℕ) → Part r → 9 ≤ size (cleaned g t) r
  part_nine r p =
      let c = margin_gives p.some (and_parts (nat_eq (joined_owner g t p.some) t) (in_margin g p.some) p.stays).1 in
      let m = around c.0 c.1 g.grid.create p.some (omega arith) c.2 p.stays in
      nine_sections (λ s. nat_eq ((cleaned g t).owner s) r) (section_of g.grid c.0)
      (λ s d. joins.remains_in g t rules ticks s (beside_center c.0 c.1 s m.0 d).0)
      (λ s d. let b = beside_center c.0 c.1 s m.0 d in eq-eqb _ _ (stays_in_part s b.0 ∙ sym b.1 ∙ m.1 ∙ p.is))

  pub apart_size : (r : ℕ) → Apart r → size g r ≤ size (cleaned g t) r
  apart_size r a = count_by-mono (λ s. nat_eq (g.owner s) r) (λ s. nat_eq ((cleaned g t).owner s) r) (λ s h.
      let e : g.owner s ≡ r = eqb-true _ _ h in
      let o = joins.owned_apart g t rules ticks s r e a in
      let n : nat_eq (joined_owner g t s) t ≡ false = ne_eqb _ _ (λ x. a.differs (sym o ∙ x)) in
      eq-eqb _ _ (rw n e)) all_sections
