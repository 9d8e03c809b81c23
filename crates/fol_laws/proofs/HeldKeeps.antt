-- A region that has to wait, or that rests, at its release keeps the rules.
use Rattle.std.proofs.Common.{◌≡◌, ℕ, ◌≤◌, ◌<◌, refl, sym, ◌∙◌, arith, true, false, inl, inr, ◌⊎◌}
use Rattle.std.specs.Prelude.{◌≢◌, nat_eq}
use Rattle.std.proofs.lemmas.Bool.{cases_Bool, cases_eq, or_left, or_right, true≢false, eqb-true, eq-eqb, ne_eqb, ltb-true, lt-ltb, or_parts}
use Rattle.fol_model.specs.declared.regions.State.TheVariants.{Transient, Ready, Ticking, Dead}
use Rattle.fol_model.specs.Universe.{count_sections, all_sections}
use Rattle.fol_model.specs.GridState.{GridState, is_present, size}
use Rattle.fol_model.specs.Counting.{some_below}
use Rattle.fol_model.specs.Release.{joined_owner, passes_on, joined_waits, must_wait, cleans, held, rested}
use Rattle.fol_model.specs.Rules.{Rules}
use Rattle.fol_laws.proofs.Distances.{distance_swap}
use Rattle.fol_laws.proofs.NumbersBelow.{some_below-is, some_below-gives}
use Rattle.fol_laws.proofs.ListCounts.{count_by-mono, list_any-gives}
use Rattle.fol_laws.proofs.AllSections.{some_section-is}
use Rattle.fol_laws.proofs.Joins.{Apart, t_waits_none, t_below, t_pos, apart_cases, owner_joined, owned_by_t, owned_apart, joined_present, present_joined, passed_ticking, beside_joined, waits_joined, waits_apart, waits_t, awaited_apart}
use Rattle.fol_laws.proofs.Resting.{rests}

module _ (g : GridState) (t : ℕ) (rules : Rules g) (ticks : g.state t ≡ Ticking) where
  held_t : (held g t).state t ≡ Transient
  held_t = let k : nat_eq t t ≡ true = eq-eqb _ _ refl in rw k refl

  held_apart : (r : ℕ) → Apart g t rules ticks r → (held g t).state r ≡ g.state r
  held_apart r a = let k : nat_eq r t ≡ false = ne_eqb _ _ a.differs in let f = a.free in rw (k, f) refl

  held_lives : (r : ℕ) → (held g t).state r ≢ Dead → (r ≡ t) ⊎ (Apart g t rules ticks r × (g.state r ≢ Dead))
  held_lives r l = elim (apart_cases g t rules ticks r) [
    | inl e ↦ inl e
    | inr h ↦ elim h [
      | inl w ↦ let n : nat_eq r t ≡ false = ne_eqb _ _ (λ e. let x : g.waits t t ≡ true = rw e at w in true≢false (sym x ∙ t_waits_none g t rules ticks t)) in absurd (l (rw (n, w) refl))
      | inr a ↦ inr (a, λ d. l (held_apart r a ∙ d))
    ]
  ]

  pub size_apart : (r : ℕ) → Apart g t rules ticks r → size g r ≤ count_sections (λ s. nat_eq (joined_owner g t s) r)
  size_apart r a = count_by-mono (λ s. nat_eq (g.owner s) r) (λ s. nat_eq (joined_owner g t s) r) (λ s h. eq-eqb _ _ (owned_apart g t rules ticks s r (eqb-true _ _ h) a)) all_sections

  pub held_keeps : must_wait g t ≡ true → Rules (held g t)
  held_keeps wait = record {
    section_limits = λ s p. rules.section_limits s (present_joined g t rules ticks s p);
    chunk_limits = rules.chunk_limits;
    owner_lives = λ s p. elim (owner_joined g t rules ticks s) [
      | inl e ↦ rw (e, held_t) (λ d. cc)
      | inr k ↦ rw (k.same, held_apart (g.owner s) k.region) (rules.owner_lives s (present_joined g t rules ticks s p))
    ];
    has_section = λ r l. elim (held_lives r l) [
      | inl e ↦ let s = list_any-gives (λ s. nat_eq (g.owner s) t) all_sections (rules.has_section t (λ d. cc)) in
          let o = eqb-true _ _ s.1 in
          some_section-is (λ s. nat_eq (joined_owner g t s) r) s.0 (rules.section_limits s.0 (rw o (t_pos g t rules ticks))) (eq-eqb _ _ (owned_by_t g t rules ticks s.0 o ∙ sym e))
      | inr k ↦ let s = list_any-gives (λ s. nat_eq (g.owner s) r) all_sections (rules.has_section r k.1) in
          let o = eqb-true _ _ s.1 in
          some_section-is (λ s. nat_eq (joined_owner g t s) r) s.0 (rules.section_limits s.0 (rw o (rules.given r k.1))) (eq-eqb _ _ (owned_apart g t rules ticks s.0 r o k.0))
    ];
    count = let m = count_by-mono (is_present (held g t)) (is_present g) (λ s h. lt-ltb 0 _ (present_joined g t rules ticks s (ltb-true _ _ h))) all_sections in let c = rules.count in omega arith;
    margin = λ q s h d. joined_present g t rules ticks s (rules.margin q s h d);
    together = λ a b pa pb d.
        let qa = present_joined g t rules ticks a pa in let qb = present_joined g t rules ticks b pb in
        elim (owner_joined g t rules ticks a) [
          | inl ea ↦ elim (owner_joined g t rules ticks b) [
            | inl eb ↦ or_left _ _ (eq-eqb _ _ (ea ∙ sym eb))
            | inr kb ↦ rw (ea, kb.same) (or_right _ _ (or_left _ _ (waits_t g t rules ticks _ ∙ beside_joined g t rules ticks a b qa qb ea kb d)))
          ]
          | inr ka ↦ elim (owner_joined g t rules ticks b) [
            | inl eb ↦ rw (eb, ka.same) (or_right _ _ (or_right _ _ (waits_t g t rules ticks _ ∙ beside_joined g t rules ticks b a qb qa eb ka (rw distance_swap d))))
            | inr kb ↦ rw (ka.same, kb.same, waits_apart g t rules ticks (g.owner a) (g.owner b) ka.region, waits_apart g t rules ticks (g.owner b) (g.owner a) kb.region) (rules.together a b qa qb d)
          ]
        ];
    waiting = λ u v h. elim (waits_joined g t rules ticks u v h) [
      | inl k ↦ rw (k.0) held_t
      | inr k ↦ held_apart u k.0 ∙ rules.waiting u v k.1
    ];
    awaited = λ u v h. elim (waits_joined g t rules ticks u v h) [
      | inl k ↦ let p = passed_ticking g t rules ticks v k.1 in held_apart v p.1 ∙ p.0
      | inr k ↦ held_apart v (awaited_apart g t rules ticks u v k.0 k.1) ∙ rules.awaited u v k.1
    ];
    has_pair = λ u h. elim (held_lives u (λ d. cc)) [
      | inl e ↦ let v = some_below-gives (passes_on g t) g.next wait in rw e (some_below-is (joined_waits g t t) g.next v.0 v.1 (waits_t g t rules ticks v.0 ∙ v.2))
      | inr k ↦ let v = some_below-gives (g.waits u) g.next (rules.has_pair u (sym (held_apart u k.0) ∙ h)) in
          some_below-is (joined_waits g t u) g.next v.0 v.1 (waits_apart g t rules ticks u v.0 k.0 ∙ v.2)
    ];
    given = λ r l. elim (held_lives r l) [ inl e ↦ rw e (t_pos g t rules ticks) | inr k ↦ rules.given r k.1 ];
    below_next = λ r l. elim (held_lives r l) [ inl e ↦ rw e (t_below g t rules ticks) | inr k ↦ rules.below_next r k.1 ];
    next_id = rules.next_id;
    nine_ready = λ r h. elim (held_lives r (λ d. cc)) [
      | inl e ↦ let x : (held g t).state t ≡ Ready = rw e at h in let y = held_t in absurd (cc)
      | inr k ↦ let a = rules.nine_ready r (sym (held_apart r k.0) ∙ h) in let b = size_apart r k.0 in omega arith
    ];
    nine_ticking = λ r h. elim (held_lives r (λ d. cc)) [
      | inl e ↦ let x : (held g t).state t ≡ Ticking = rw e at h in let y = held_t in absurd (cc)
      | inr k ↦ let a = rules.nine_ticking r (sym (held_apart r k.0) ∙ h) in let b = size_apart r k.0 in omega arith
    ];
  }

  no_joins : cleans g t ≡ false → (u : ℕ) → g.waits u t ≡ false
  unfolding cleans
  no_joins h u = elim (cases_Bool (g.waits u t)) [
    | inl w ↦ let b : u < g.next = rules.below_next u (λ d. let e = rules.waiting u t w in cc) in
        absurd (true≢false (sym (some_below-is (λ u. g.waits u t) g.next u b w) ∙ (or_parts (some_below (λ u. g.waits u t) g.next) _ h).0))
    | inr w ↦ w
  ]

  rested_t : (rested g t).state t ≡ Ready
  rested_t = let k : nat_eq t t ≡ true = eq-eqb _ _ refl in rw k refl

  rested_other : (r : ℕ) → r ≢ t → (rested g t).state r ≡ g.state r
  rested_other r n = let k : nat_eq r t ≡ false = ne_eqb _ _ n in rw k refl

  -- each fact on the state of a region holds where it holds of t and of the others
  rested_lives : (r : ℕ) → (rested g t).state r ≢ Dead → g.state r ≢ Dead
  rested_lives r l = elim (cases_eq r t) [ inl e ↦ rw e (λ d. cc) | inr n ↦ (λ d. l (rested_other r n ∙ d)) ]

  pub rested_keeps : cleans g t ≡ false → Rules (rested g t)
  rested_keeps rests = record {
    section_limits = rules.section_limits;
    chunk_limits = rules.chunk_limits;
    owner_lives = λ s p d. elim (cases_eq (g.owner s) t) [
      | inl e ↦ let x : (rested g t).state t ≡ Dead = rw e at d in let y = rested_t in cc
      | inr n ↦ rules.owner_lives s p (sym (rested_other (g.owner s) n) ∙ d)
    ];
    has_section = λ r l. rules.has_section r (rested_lives r l);
    count = rules.count;
    margin = rules.margin;
    together = rules.together;
    waiting = λ u v h. rested_other u (λ e. let x : g.waits t v ≡ true = rw e at h in true≢false (sym x ∙ t_waits_none g t rules ticks v)) ∙ rules.waiting u v h;
    awaited = λ u v h. rested_other v (λ e. let x : g.waits u t ≡ true = rw e at h in true≢false (sym x ∙ no_joins rests u)) ∙ rules.awaited u v h;
    has_pair = λ u h. elim (cases_eq u t) [
      | inl e ↦ let x : (rested g t).state t ≡ Transient = rw e at h in let y = rested_t in absurd (cc)
      | inr n ↦ rules.has_pair u (sym (rested_other u n) ∙ h)
    ];
    given = λ r l. rules.given r (rested_lives r l);
    below_next = λ r l. rules.below_next r (rested_lives r l);
    next_id = rules.next_id;
    nine_ready = λ r h. elim (cases_eq r t) [
      | inl e ↦ rw e (rules.nine_ticking t ticks)
      | inr n ↦ rules.nine_ready r (sym (rested_other r n) ∙ h)
    ];
    nine_ticking = λ r h. elim (cases_eq r t) [
      | inl e ↦ rw e (rules.nine_ticking t ticks)
      | inr n ↦ rules.nine_ticking r (sym (rested_other r n) ∙ h)
    ];
  }
