-- The end of a tick keeps the rules where dead sections leave and what is left falls into parts.
use Rattle.std.proofs.Common.{◌≡◌, ℕ, ◌≤◌, sym, ◌∙◌, arith, true, false, inl, inr}
use Rattle.std.specs.Prelude.{nat_eq}
use Rattle.std.proofs.lemmas.Bool.{or_left, true≢false, and_from, eqb-true, eq-eqb, ne_eqb, ltb-true, lt-ltb}
use Rattle.fol_model.specs.declared.regions.State.TheVariants.{Ready, Ticking}
use Rattle.fol_model.specs.GridNumbers.{IsGrid}
use Rattle.fol_model.specs.Universe.{all_sections}
use Rattle.fol_model.specs.GridState.{GridState, is_present, present_count}
use Rattle.fol_model.specs.Release.{joined_owner, joined_waits, must_wait, remains, cleaned}
use Rattle.fol_model.specs.Rules.{Rules}
use Rattle.fol_laws.proofs.Distances.{distance_swap}
use Rattle.fol_laws.proofs.NumbersBelow.{some_below-is, some_below-gives}
use Rattle.fol_laws.proofs.ListCounts.{count_by-mono, list_any-gives}
use Rattle.fol_laws.proofs.AllSections.{some_section-is}
use Rattle.fol_laws.proofs.Joins as joins
use Rattle.fol_laws.proofs.CleanedGrid.{none_pass, grows, margin_from, remains_owner, part_id_same, part_pos, part_below_next, cleaned_next, part_ready, state_apart, lives_cleaned, stays_in_part, stays_apart, owner_cleaned, was_present, part_nine, apart_size}

module _ (g : GridState) (t : ℕ) (rules : Rules g) (ok : IsGrid g.grid) (ticks : g.state t ≡ Ticking) (free : must_wait g t ≡ false) where
  -- no section comes
  pub present_cleaned : present_count (cleaned g t) ≤ present_count g
  present_cleaned = count_by-mono (is_present (cleaned g t)) (is_present g) (λ s h. lt-ltb 0 _ (was_present g t rules ok ticks free s (ltb-true _ _ h))) all_sections

  pub cleaned_keeps : Rules (cleaned g t)
  cleaned_keeps = record {
    section_limits = λ s p. rules.section_limits s (was_present g t rules ok ticks free s p);
    chunk_limits = rules.chunk_limits;
    owner_lives = λ s p. elim (owner_cleaned g t rules ok ticks free s p) [
      | inl k ↦ let e = k.is in let f = part_ready g t rules ok ticks free s k.stays in rw (e, f) (λ d. cc)
      | inr k ↦ let e = k.is in let l = rules.owner_lives s (was_present g t rules ok ticks free s p) in let f = state_apart g t rules ok ticks free (g.owner s) k.apart.region l in rw (e, f) l
    ];
    has_section = λ r l. elim (lives_cleaned g t rules ok ticks free r l) [
      | inl k ↦ some_section-is (λ s. nat_eq ((cleaned g t).owner s) r) k.some (joins.remains_in g t rules ticks k.some k.stays) (eq-eqb _ _ (stays_in_part g t rules ok ticks free k.some k.stays ∙ k.is))
      | inr k ↦ let s = list_any-gives (λ s. nat_eq (g.owner s) r) all_sections (rules.has_section r k.1) in
          let e : g.owner s.0 ≡ r = eqb-true _ _ s.1 in
          let o = joins.owned_apart g t rules ticks s.0 r e k.0 in
          let n : nat_eq (joined_owner g t s.0) t ≡ false = ne_eqb _ _ (λ x. k.0.differs (sym o ∙ x)) in
          some_section-is (λ s. nat_eq ((cleaned g t).owner s) r) s.0 (rules.section_limits s.0 (rw e (rules.given r k.1))) (eq-eqb _ _ (rw n e))
    ];
    count = let m = present_cleaned in let c = rules.count in omega arith;
    margin = λ q s h d.
        let p = rules.margin q s h d in
        elim (joins.owner_joined g t rules ticks s) [
          | inl e ↦ let r : remains g t s ≡ true = and_from _ _ (eq-eqb _ _ e) (margin_from g t rules ok ticks free q s h d) in let o = stays_in_part g t rules ok ticks free s r in rw o (part_pos g t rules ok ticks free s r)
          | inr k ↦ let o = stays_apart g t rules ok ticks free s k in rw o p
        ];
    together = λ a b pa pb d.
        let qa = was_present g t rules ok ticks free a pa in let qb = was_present g t rules ok ticks free b pb in
        elim (owner_cleaned g t rules ok ticks free a pa) [
          | inl ka ↦ elim (owner_cleaned g t rules ok ticks free b pb) [
            | inl kb ↦ or_left _ _ (eq-eqb _ _ (ka.is ∙ part_id_same g t rules ok ticks free a b ka.stays kb.stays d ∙ sym kb.is))
            | inr kb ↦ absurd (kb.apart.region.differs (sym kb.apart.same ∙ grows g t rules ok ticks free a b qa qb (remains_owner g t rules ok ticks free a ka.stays) d))
          ]
          | inr ka ↦ elim (owner_cleaned g t rules ok ticks free b pb) [
            | inl kb ↦ absurd (ka.apart.region.differs (sym ka.apart.same ∙ grows g t rules ok ticks free b a qb qa (remains_owner g t rules ok ticks free b kb.stays) (rw distance_swap d)))
            | inr kb ↦ let ea = ka.is in let eb = kb.is in
                rw (ea, eb, joins.waits_apart g t rules ticks (g.owner a) (g.owner b) ka.apart.region, joins.waits_apart g t rules ticks (g.owner b) (g.owner a) kb.apart.region) (rules.together a b qa qb d)
          ]
        ];
    waiting = λ u v h. elim (joins.waits_joined g t rules ticks u v h) [
      | inl k ↦ absurd (true≢false (sym k.1 ∙ none_pass g t rules ok ticks free v))
      | inr k ↦ let e = rules.waiting u v k.1 in state_apart g t rules ok ticks free u k.0 (λ d. cc) ∙ e
    ];
    awaited = λ u v h. elim (joins.waits_joined g t rules ticks u v h) [
      | inl k ↦ absurd (true≢false (sym k.1 ∙ none_pass g t rules ok ticks free v))
      | inr k ↦ let e = rules.awaited u v k.1 in state_apart g t rules ok ticks free v (joins.awaited_apart g t rules ticks u v k.0 k.1) (λ d. cc) ∙ e
    ];
    has_pair = λ u h. elim (lives_cleaned g t rules ok ticks free u (λ d. cc)) [
      | inl k ↦ let x = part_ready g t rules ok ticks free k.some k.stays in let e = k.is in let y : (cleaned g t).state u ≡ Ready = rw e at x in absurd (cc)
      | inr k ↦ let v = some_below-gives (g.waits u) g.next (rules.has_pair u (sym (state_apart g t rules ok ticks free u k.0 k.1) ∙ h)) in
          some_below-is (joined_waits g t u) (cleaned g t).next v.0 (omega (arith, v.1, cleaned_next g t rules ok ticks free)) (joins.waits_apart g t rules ticks u v.0 k.0 ∙ v.2)
    ];
    given = λ r l. elim (lives_cleaned g t rules ok ticks free r l) [ inl k ↦ let e = k.is in let p = part_pos g t rules ok ticks free k.some k.stays in rw e at p | inr k ↦ rules.given r k.1 ];
    below_next = λ r l. elim (lives_cleaned g t rules ok ticks free r l) [
      | inl k ↦ let e = k.is in let p = part_below_next g t rules ok ticks free k.some k.stays in rw e at p
      | inr k ↦ let b = rules.below_next r k.1 in omega (arith, cleaned_next g t rules ok ticks free)
    ];
    next_id = omega (arith, rules.next_id, cleaned_next g t rules ok ticks free);
    nine_ready = λ r h. elim (lives_cleaned g t rules ok ticks free r (λ d. cc)) [
      | inl k ↦ part_nine g t rules ok ticks free r k
      | inr k ↦ let a = rules.nine_ready r (sym (state_apart g t rules ok ticks free r k.0 k.1) ∙ h) in let b = apart_size g t rules ok ticks free r k.0 in omega arith
    ];
    nine_ticking = λ r h. elim (lives_cleaned g t rules ok ticks free r (λ d. cc)) [
      | inl k ↦ part_nine g t rules ok ticks free r k
      | inr k ↦ let a = rules.nine_ticking r (sym (state_apart g t rules ok ticks free r k.0 k.1) ∙ h) in let b = apart_size g t rules ok ticks free r k.0 in omega arith
    ];
  }
