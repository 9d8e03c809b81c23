-- One more hold keeps the rules.
use Rattle.std.proofs.Common.{◌≡◌, ℕ, ◌+◌, ◌≤◌, ◌<◌, refl, sym, ◌∙◌, arith, true, false, inl, inr}
use Rattle.std.specs.Prelude.{nat_eq}
use Rattle.std.proofs.lemmas.Bool.{cases_Bool, cases_eq, or_left, or_right, and_parts, and_from, eqb-true, eq-eqb, ltb-true, ltb-false, lt-ltb, le-leb, ne_eqb, leb-true}
use Rattle.fol_model.specs.declared.places.ChunkPos.{ChunkPos}
use Rattle.fol_model.specs.declared.regions.State.TheVariants.{Transient, Ready, Ticking}
use Rattle.fol_model.specs.Geometry.{distance, is_chunk, section_of}
use Rattle.fol_model.specs.GridNumbers.{IsGrid}
use Rattle.fol_model.specs.Universe.{all_sections}
use Rattle.fol_model.specs.GridState.{GridState, is_present, present_count}
use Rattle.fol_model.specs.Counting.{some_below}
use Rattle.fol_model.specs.Add.{counted, is_wanted, wanted, is_near, is_near_calm, target_waits, target_state, extended, is_full, add}
use Rattle.fol_model.specs.Rules.{Rules}
use Rattle.fol_laws.proofs.Distances.{distance_swap}
use Rattle.fol_laws.proofs.NumbersBelow.{some_below-is, some_below-gives}
use Rattle.fol_laws.proofs.ListCounts.{count_by-or, list_any-gives, count_by-some}
use Rattle.fol_laws.proofs.AllSections.{some_section-is, count_sections-is, nine_sections}
use Rattle.fol_laws.proofs.FloorDivision.{around_in_limits}
use Rattle.fol_laws.proofs.AddTarget.{near_has, target_pos, target_below, extended_next}
use Rattle.fol_laws.proofs.AddEffect.{state_target, state_stays, waits_target, waits_stays, lives_after, owner_after, target_awaits, ticking_stays, target_transient, target_lives, waits_after, stays_owner, size_grows, target_owner, loaded_after, present_after, around_present, around_target, beside}

module _ (g : GridState) (c : ChunkPos) (rules : Rules g) (ok : IsGrid g.grid) (limits : is_chunk c ≡ true) where
  -- the wanted sections come, and no other
  present_extended : present_count (extended g c) ≤ present_count g + wanted g c
  unfolding wanted
  present_extended = count_by-or (is_present (extended g c)) (is_present g) (is_wanted g c) (λ s h. elim (cases_Bool (is_wanted g c s)) [
    | inl w ↦ or_right _ _ w
    | inr w ↦ or_left _ _ (elim (cases_Bool (is_near_calm g c (g.owner s))) [
      | inl k ↦ lt-ltb 0 _ (near_has g c rules ok limits (g.owner s) (and_parts (is_near g c (g.owner s)) _ k).0).0
      | inr k ↦ let same : (extended g c).owner s ≡ g.owner s = rw (w, k) refl in rw same at h
    ])
  ]) all_sections

  pub extended_keeps : is_full g c ≡ false → 0 < wanted g c → Rules (extended g c)
  unfolding is_full wanted
  extended_keeps room some = record {
    section_limits = λ s p. elim (cases_Bool (is_wanted g c s)) [
      | inl w ↦ around_in_limits g.grid c s ok limits (leb-true _ _ (and_parts _ _ w).1)
      | inr w ↦ elim (cases_Bool (is_near_calm g c (g.owner s))) [
        | inl k ↦ rules.section_limits s (near_has g c rules ok limits (g.owner s) (and_parts (is_near g c (g.owner s)) _ k).0).0
        | inr k ↦ rules.section_limits s (rw (w, k) at p)
      ]
    ];
    chunk_limits = λ q h. elim (loaded_after g c rules ok limits q h) [ inl e ↦ rw e limits | inr e ↦ rules.chunk_limits q e ];
    owner_lives = λ s p. elim (owner_after g c rules ok limits s p) [
      | inl e ↦ rw (e, state_target g c rules ok limits) (target_lives g c rules ok limits)
      | inr k ↦ rw (k.same, state_stays g c rules ok limits (g.owner s) k.region) (rules.owner_lives s k.present)
    ];
    has_section = λ r l. elim (lives_after g c rules ok limits r l) [
      | inl e ↦ let s = count_by-some (is_wanted g c) all_sections some in
          some_section-is _ s.0 (around_in_limits g.grid c s.0 ok limits (leb-true _ _ (and_parts _ _ s.1).1)) (eq-eqb _ _ (target_owner g c rules ok limits s.0 s.1 ∙ sym e))
      | inr k ↦ let p = rules.given r k.1 in let s = list_any-gives _ all_sections (rules.has_section r k.1) in
          let e = eqb-true _ _ s.1 in
          some_section-is _ s.0 (rules.section_limits s.0 (rw e p)) (eq-eqb _ _ (stays_owner g c rules ok limits s.0 r e p k.0))
    ];
    count = let a = present_extended in
        let b : present_count g + wanted g c ≤ 16384 = ltb-false 16384 (present_count g + wanted g c) room in
        omega arith;
    margin = λ q s h d. elim (loaded_after g c rules ok limits q h) [
      | inl e ↦ around_present g c rules ok limits s (rw e at d)
      | inr e ↦ present_after g c rules ok limits s (rules.margin q s e d)
    ];
    together = λ a b pa pb d. elim (owner_after g c rules ok limits a pa) [
      | inl ea ↦ elim (owner_after g c rules ok limits b pb) [
        | inl eb ↦ or_left _ _ (eq-eqb _ _ (ea ∙ sym eb))
        | inr kb ↦ rw (ea, kb.same) (or_right _ _ (or_left _ _ (waits_target g c rules ok limits _ ∙ beside g c rules ok limits a b ea pa kb d)))
      ]
      | inr ka ↦ elim (owner_after g c rules ok limits b pb) [
        | inl eb ↦ rw (eb, ka.same) (or_right _ _ (or_right _ _ (waits_target g c rules ok limits _ ∙ beside g c rules ok limits b a eb pb ka (rw distance_swap d))))
        | inr kb ↦ rw (ka.same, kb.same, waits_stays g c rules ok limits (g.owner a) (g.owner b) ka.region, waits_stays g c rules ok limits (g.owner b) (g.owner a) kb.region) (rules.together a b ka.present kb.present d)
      ]
    ];
    waiting = λ u t h. elim (waits_after g c rules ok limits u t h) [
      | inl k ↦ rw (k.0, state_target g c rules ok limits) (target_transient g c rules ok limits t k.1)
      | inr k ↦ state_stays g c rules ok limits u k.0 ∙ rules.waiting u t k.1
    ];
    awaited = λ u t h. elim (waits_after g c rules ok limits u t h) [
      | inl k ↦ let e = target_awaits g c rules ok limits t k.1 in state_stays g c rules ok limits t (ticking_stays g c rules ok limits t e) ∙ e
      | inr k ↦ let e = rules.awaited u t k.1 in state_stays g c rules ok limits t (ticking_stays g c rules ok limits t e) ∙ e
    ];
    has_pair = λ u h. elim (lives_after g c rules ok limits u (λ d. cc)) [
      | inl e ↦ let t : target_state g c ≡ Transient = sym (state_target g c rules ok limits) ∙ (rw e at h) in
          elim (cases_Bool (some_below (target_waits g c) g.next)) [
            | inl k ↦ let v = some_below-gives (target_waits g c) g.next k in
                rw e (some_below-is _ _ v.0 (omega (arith, v.1, extended_next g c rules ok limits)) (waits_target g c rules ok limits v.0 ∙ v.2))
            | inr k ↦ let r : target_state g c ≡ Ready = rw k refl in absurd (cc)
          ]
      | inr k ↦ let v = some_below-gives (g.waits u) g.next (rules.has_pair u (sym (state_stays g c rules ok limits u k.0) ∙ h)) in
          some_below-is _ _ v.0 (omega (arith, v.1, extended_next g c rules ok limits)) (waits_stays g c rules ok limits u v.0 k.0 ∙ v.2)
    ];
    given = λ r l. elim (lives_after g c rules ok limits r l) [ inl e ↦ rw e (target_pos g c rules ok limits) | inr k ↦ rules.given r k.1 ];
    below_next = λ r l. elim (lives_after g c rules ok limits r l) [ inl e ↦ rw e (target_below g c rules ok limits) | inr k ↦ let a = rules.below_next r k.1 in omega (arith, extended_next g c rules ok limits) ];
    next_id = omega (arith, target_below g c rules ok limits);
    nine_ready = λ r h. elim (lives_after g c rules ok limits r (λ d. cc)) [
      | inl e ↦ let t : target_state g c ≡ Ready = sym (state_target g c rules ok limits) ∙ (rw e at h) in
          let none : (v : ℕ) → target_waits g c v ≡ false = λ v. elim (cases_Bool (target_waits g c v)) [
            | inl w ↦ let x = target_transient g c rules ok limits v w in absurd (cc)
            | inr w ↦ w
          ] in
          nine_sections _ (section_of g.grid c) (λ s d. around_in_limits g.grid c s ok limits (omega (arith, ok.create_low))) (λ s d. eq-eqb _ _ (around_target g c rules ok limits none s (omega (arith, ok.create_low)) ∙ sym e))
      | inr k ↦ let a = rules.nine_ready r (sym (state_stays g c rules ok limits r k.0) ∙ h) in let b = size_grows g c rules ok limits r (rules.given r k.1) k.0 in omega arith
    ];
    nine_ticking = λ r h. elim (lives_after g c rules ok limits r (λ d. cc)) [
      | inl e ↦ let t : target_state g c ≡ Ticking = sym (state_target g c rules ok limits) ∙ (rw e at h) in
          elim (cases_Bool (some_below (target_waits g c) g.next)) [
            | inl k ↦ let x : target_state g c ≡ Transient = rw k refl in absurd (cc)
            | inr k ↦ let x : target_state g c ≡ Ready = rw k refl in absurd (cc)
          ]
      | inr k ↦ let a = rules.nine_ticking r (sym (state_stays g c rules ok limits r k.0) ∙ h) in let b = size_grows g c rules ok limits r (rules.given r k.1) k.0 in omega arith
    ];
  }

  -- where no section is wanted, only the hold comes
  pub counted_keeps : wanted g c ≡ 0 → Rules (counted g c)
  unfolding wanted
  counted_keeps none = record {
    section_limits = rules.section_limits;
    chunk_limits = λ q h. elim (loaded_after g c rules ok limits q h) [ inl e ↦ rw e limits | inr e ↦ rules.chunk_limits q e ];
    owner_lives = rules.owner_lives;
    has_section = rules.has_section;
    count = rules.count;
    margin = λ q s h d. elim (loaded_after g c rules ok limits q h) [
      | inl e ↦ elim (cases_Bool (is_present g s)) [
        | inl p ↦ ltb-true _ _ p
        | inr p ↦ let near : distance (section_of g.grid c) s ≤ g.grid.create = rw e at d in
            let some : 0 < wanted g c = count_sections-is (is_wanted g c) s (around_in_limits g.grid c s ok limits near) (and_from _ _ (rw p refl) (le-leb _ _ near)) in
            absurd (omega arith)
      ]
      | inr e ↦ rules.margin q s e d
    ];
    together = rules.together;
    waiting = rules.waiting;
    awaited = rules.awaited;
    has_pair = rules.has_pair;
    given = rules.given;
    below_next = rules.below_next;
    next_id = rules.next_id;
    nine_ready = rules.nine_ready;
    nine_ticking = rules.nine_ticking;
  }

  pub add_keeps : Rules (add g c)
  unfolding add
  add_keeps = elim (cases_Bool (is_full g c)) [
    | inl e ↦ rw e rules
    | inr e ↦ elim (cases_eq (wanted g c) 0) [
      | inl n ↦ let k : nat_eq (wanted g c) 0 ≡ true = eq-eqb _ _ n in rw (e, k) (counted_keeps n)
      | inr n ↦ let k : nat_eq (wanted g c) 0 ≡ false = ne_eqb _ _ n in rw (e, k) (extended_keeps e (omega arith))
    ]
  ]

  pub present_add : present_count (add g c) ≤ present_count g + wanted g c
  unfolding add
  present_add = elim (cases_Bool (is_full g c)) [
    | inl f ↦ rw f (omega arith)
    | inr f ↦ elim (cases_Bool (nat_eq (wanted g c) 0)) [ inl k ↦ rw (f, k) (omega arith) | inr k ↦ rw (f, k) present_extended ]
  ]
