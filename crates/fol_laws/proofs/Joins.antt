-- The joins at a release: who becomes part of the released region, and for whom it then waits.
use Rattle.std.proofs.Common.{◌≡◌, ℕ, ◌≤◌, ◌<◌, refl, sym, ◌∙◌, true, false, inl, inr, ◌⊎◌, ◌&&◌, ◌||◌, not}
use Rattle.std.specs.Prelude.{◌≢◌, nat_eq}
use Rattle.std.proofs.lemmas.Bool.{cases_Bool, cases_eq, or_cases, true≢false, and_parts, and_from, eqb-true, eqb-false, eq-eqb, ne_eqb, not-true}
use Rattle.fol_model.specs.declared.places.SectionPos.{SectionPos}
use Rattle.fol_model.specs.declared.regions.State.TheVariants.{Ticking}
use Rattle.fol_model.specs.Geometry.{is_section, distance}
use Rattle.fol_model.specs.GridState.{in_margin, GridState}
use Rattle.fol_model.specs.Counting.{some_below}
use Rattle.fol_model.specs.Release.{remains, joined_owner, passes_on, joined_waits}
use Rattle.fol_model.specs.Rules.{Rules}
use Rattle.fol_laws.proofs.NumbersBelow.{some_below-is, some_below-gives}

module _ (g : GridState) (t : ℕ) (rules : Rules g) (ticks : g.state t ≡ Ticking) where
  -- a region that neither is t nor joins it
  pub record Apart (r : ℕ) : Type 0 where
    pub differs : r ≢ t
    pub free : g.waits r t ≡ false

  pub t_waits_none : (v : ℕ) → g.waits t v ≡ false
  t_waits_none v = elim (cases_Bool (g.waits t v)) [ inl h ↦ let e = rules.waiting t v h in absurd (cc) | inr h ↦ h ]

  pub t_below : t < g.next
  t_below = rules.below_next t (λ d. cc)

  pub t_pos : 0 < t
  t_pos = rules.given t (λ d. cc)

  pub other_apart : (v : ℕ) → g.state v ≡ Ticking → v ≢ t → Apart v
  other_apart v h n = record { differs = n; free = elim (cases_Bool (g.waits v t)) [ inl w ↦ let e = rules.waiting v t w in absurd (cc) | inr w ↦ w ] }

  pub apart_cases : (r : ℕ) → (r ≡ t) ⊎ ((g.waits r t ≡ true) ⊎ Apart r)
  apart_cases r = elim (cases_eq r t) [
    | inl e ↦ inl e
    | inr n ↦ inr (elim (cases_Bool (g.waits r t)) [ inl w ↦ inl w | inr w ↦ inr (record { differs = n; free = w }) ])
  ]

  -- whose a section is after the joins
  pub record OwnerApart (s : SectionPos) : Type 0 where
    pub same : joined_owner g t s ≡ g.owner s
    pub region : Apart (g.owner s)

  pub owner_joined : (s : SectionPos) → (joined_owner g t s ≡ t) ⊎ OwnerApart s
  owner_joined s = elim (apart_cases (g.owner s)) [
    | inl e ↦ let n = t_waits_none t in inl (rw (e, n) refl)
    | inr h ↦ elim h [
      | inl w ↦ inl (rw w refl)
      | inr a ↦ inr (record { same = let f = a.free in rw f refl; region = a })
    ]
  ]

  pub owned_by_t : (s : SectionPos) → g.owner s ≡ t → joined_owner g t s ≡ t
  owned_by_t s e = let n = t_waits_none t in rw (e, n) refl

  pub owned_apart : (s : SectionPos) (r : ℕ) → g.owner s ≡ r → Apart r → joined_owner g t s ≡ r
  owned_apart s r e a = let f = a.free in rw (e, f) refl

  pub joined_present : (s : SectionPos) → 0 < g.owner s → 0 < joined_owner g t s
  joined_present s p = elim (owner_joined s) [ inl e ↦ rw e t_pos | inr k ↦ rw k.same p ]

  pub present_joined : (s : SectionPos) → 0 < joined_owner g t s → 0 < g.owner s
  present_joined s p = elim (apart_cases (g.owner s)) [
    | inl e ↦ rw e t_pos
    | inr h ↦ elim h [
      | inl w ↦ rules.given (g.owner s) (λ d. let e = rules.waiting (g.owner s) t w in cc)
      | inr a ↦ let f = a.free in rw f at p
    ]
  ]

  pub passes_from : (u v : ℕ) → v ≢ t → g.waits u t ≡ true → g.waits u v ≡ true → passes_on g t v ≡ true
  unfolding passes_on
  passes_from u v n j w =
      let e : nat_eq v t ≡ false = ne_eqb _ _ n in
      let b : u < g.next = rules.below_next u (λ d. let e = rules.waiting u t j in cc) in
      and_from (not (nat_eq v t)) _ (rw e refl) (some_below-is (λ u. g.waits u t && g.waits u v) g.next u b (and_from _ _ j w))

  pub record Passed (v : ℕ) : Type 0 where
    pub differs : v ≢ t
    pub by : ℕ
    pub joins : g.waits by t ≡ true
    pub waits : g.waits by v ≡ true

  pub passed : (v : ℕ) → passes_on g t v ≡ true → Passed v
  unfolding passes_on
  passed v h =
      let parts = and_parts (not (nat_eq v t)) (some_below (λ u. g.waits u t && g.waits u v) g.next) h in
      let u = some_below-gives (λ u. g.waits u t && g.waits u v) g.next parts.1 in
      let both = and_parts (g.waits u.0 t) (g.waits u.0 v) u.2 in
      record { differs = λ e. eqb-false v t (not-true _ parts.0) e; by = u.0; joins = both.0; waits = both.1 }

  pub passed_ticking : (v : ℕ) → passes_on g t v ≡ true → (g.state v ≡ Ticking) × Apart v
  passed_ticking v h = let p = passed v h in let e = rules.awaited p.by v p.waits in (e, other_apart v e p.differs)

  -- beside a section of t after the joins: t waits for its region
  pub beside_joined : (a b : SectionPos) → 0 < g.owner a → 0 < g.owner b → joined_owner g t a ≡ t → OwnerApart b → distance a b ≤ g.grid.merge → passes_on g t (g.owner b) ≡ true
  beside_joined a b pa pb ea kb d =
      elim (or_cases (nat_eq (g.owner a) (g.owner b)) (g.waits (g.owner a) (g.owner b) || g.waits (g.owner b) (g.owner a)) (rules.together a b pa pb d)) [
        | inl e ↦ let same : g.owner a ≡ g.owner b = eqb-true _ _ e in
            let f : joined_owner g t a ≡ g.owner b = owned_apart a (g.owner b) same kb.region in absurd (kb.region.differs (sym f ∙ ea))
        | inr e ↦ elim (or_cases (g.waits (g.owner a) (g.owner b)) (g.waits (g.owner b) (g.owner a)) e) [
          | inl w ↦ elim (apart_cases (g.owner a)) [
            | inl x ↦ let y : g.waits t (g.owner b) ≡ true = rw x at w in absurd (true≢false (sym y ∙ t_waits_none (g.owner b)))
            | inr x ↦ elim x [
              | inl j ↦ passes_from (g.owner a) (g.owner b) kb.region.differs j w
              | inr k ↦ let f = k.free in let y : g.owner a ≡ t = rw f at ea in absurd (k.differs y)
            ]
          ]
          | inr w ↦ let ta = rules.awaited (g.owner b) (g.owner a) w in
              elim (apart_cases (g.owner a)) [
                | inl x ↦ let y : g.waits (g.owner b) t ≡ true = rw x at w in absurd (true≢false (sym y ∙ kb.region.free))
                | inr x ↦ elim x [
                  | inl j ↦ let y = rules.waiting (g.owner a) t j in absurd (cc)
                  | inr k ↦ let f = k.free in let y : g.owner a ≡ t = rw f at ea in absurd (k.differs y)
                ]
              ]
        ]
      ]

  -- the pairs after the joins
  pub waits_joined : (u v : ℕ) → joined_waits g t u v ≡ true → ((u ≡ t) × (passes_on g t v ≡ true)) ⊎ (Apart u × (g.waits u v ≡ true))
  waits_joined u v h = elim (cases_eq u t) [
    | inl e ↦ let k : nat_eq u t ≡ true = eq-eqb _ _ e in inl (e, rw k at h)
    | inr n ↦ let k : nat_eq u t ≡ false = ne_eqb _ _ n in
        elim (cases_Bool (g.waits u t)) [
          | inl w ↦ let x : joined_waits g t u v ≡ false = rw (k, w) refl in absurd (true≢false (sym h ∙ x))
          | inr w ↦ let x : joined_waits g t u v ≡ g.waits u v = rw (k, w) refl in inr (record { differs = n; free = w }, sym x ∙ h)
        ]
  ]

  pub waits_apart : (u v : ℕ) → Apart u → joined_waits g t u v ≡ g.waits u v
  waits_apart u v a = let k : nat_eq u t ≡ false = ne_eqb _ _ a.differs in let f = a.free in rw (k, f) refl

  pub waits_t : (v : ℕ) → joined_waits g t t v ≡ passes_on g t v
  waits_t v = let k : nat_eq t t ≡ true = eq-eqb _ _ refl in rw k refl

  -- whom a region waits for that stays apart
  pub awaited_apart : (u v : ℕ) → Apart u → g.waits u v ≡ true → Apart v
  awaited_apart u v a w = other_apart v (rules.awaited u v w) (λ e. let x : g.waits u t ≡ true = rw e at w in true≢false (sym x ∙ a.free))

  -- a section that stays is within the limits
  pub remains_in : (s : SectionPos) → remains g t s ≡ true → is_section s ≡ true
  remains_in s r = rules.section_limits s (present_joined s
      (let e : joined_owner g t s ≡ t = eqb-true _ _ (and_parts (nat_eq (joined_owner g t s) t) (in_margin g s) r).0 in rw e (t_pos)))
