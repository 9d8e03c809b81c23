-- The ids of the parts follow one another, and each part has nine sections.
use Rattle.std.proofs.Common.{◌≡◌, ℕ, zero, suc, ◌+◌, ◌*◌, ◌≤◌, ◌<◌, refl, ◌∙◌, ap, arith, Bool, true, false, ◌&&◌, inl, inr, List, [], ◌∷◌, ◌++◌, length, length-append}
use Rattle.std.specs.Prelude.{nat_eq, nat_le, nat_lt, filter, if◌then◌else◌}
use Rattle.std.proofs.lemmas.Bool.{cases_Bool, and_from, le-leb, lt-ltb, eqb-true, leb-true, false_from_ne_true, and_parts}
use Rattle.std.proofs.lemmas.List.Elements.{filter-append}
use Rattle.fol_model.specs.GridNumbers.{IsGrid}
use Rattle.fol_model.specs.GridState.{GridState, is_present, present_count}
use Rattle.fol_model.specs.declared.regions.State.TheVariants.{Ticking}
use Rattle.fol_model.specs.Release.{release, must_wait, cleans, is_part_id, parts}
use Rattle.fol_model.specs.Rules.{Rules}
use Rattle.fol_model.specs.Universe.{all_sections, numbers_below}
use Rattle.fol_laws.proofs.CleanedKeeps.{present_cleaned}
use Rattle.fol_laws.proofs.ListCounts.{count_by-mono}
use Rattle.fol_laws.proofs.NumberGrowth.{nine_parts}
use Rattle.fol_laws.proofs.ReleaseKeeps.{release_keeps}
use Rattle.fol_regions.specs.Changes.{part_ids}
use Rattle.fol_world.specs.Bags.{Follow}
use Rattle.fol_world.proofs.AddBags.{filter_none}

follow_last : (a : ℕ) (xs : List ℕ) (y : ℕ) → Follow a xs → y ≡ a + length xs → Follow a (xs ++ y ∷ [])
follow_last a [] y h e = (omega arith, tt)
follow_last a (x ∷ xs) y h e = (h.0, follow_last (a + 1) xs y h.1 (omega arith))

module _ (g : GridState) (r : ℕ) where
  keep : ℕ → Bool
  keep = is_part_id g r

  none_before : (n : ℕ) → n ≤ g.next → filter (is_part_id g r) (numbers_below n) ≡ []
  unfolding numbers_below
  none_before zero l = refl
  none_before (suc n) l =
      let i = none_before n (omega arith) in
      let k : is_part_id g r n ≡ false = false_from_ne_true (is_part_id g r n) (λ h.
      let a = and_parts (nat_le 2 (parts g r)) (nat_le g.next n && nat_lt n (g.next + parts g r)) h in
      let b : g.next ≤ n = leb-true _ _ (and_parts (nat_le g.next n) (nat_lt n (g.next + parts g r)) a.1).0 in absurd (omega arith)) in
      filter-append (is_part_id g r) (numbers_below n) (n ∷ []) ∙ rw (i, k) refl

  pub record InTurn (k : ℕ) : Type 0 where
    pub follow : Follow g.next (filter (is_part_id g r) (numbers_below (g.next + k)))
    pub count : length (filter (is_part_id g r) (numbers_below (g.next + k))) ≡ k

  in_turn : nat_le 2 (parts g r) ≡ true → (k : ℕ) → k ≤ parts g r → InTurn k
  unfolding numbers_below
  in_turn two zero l = let e : filter (is_part_id g r) (numbers_below (g.next + 0)) ≡ [] = none_before (g.next + 0) (omega arith) in record { follow = rw e tt; count = rw e refl }
  in_turn two (suc k) l =
      let i = in_turn two k (omega arith) in
      let n = g.next + k in
      let p : is_part_id g r n ≡ true = and_from (nat_le 2 (parts g r)) _ two (and_from (nat_le g.next n) _ (le-leb _ _ (omega arith)) (lt-ltb _ _ (omega arith))) in
      let s : g.next + suc k ≡ suc n = omega arith in
      let e : filter (is_part_id g r) (numbers_below (g.next + suc k)) ≡ filter (is_part_id g r) (numbers_below n) ++ n ∷ []
      = ap (λ (m : ℕ). filter (is_part_id g r) (numbers_below m)) s ∙ filter-append (is_part_id g r) (numbers_below n) (n ∷ []) ∙ rw p refl in
      let c = i.count in
      record {
        follow = rw e (follow_last g.next (filter (is_part_id g r) (numbers_below n)) n i.follow (omega arith));
        count = rw e (length-append (filter (is_part_id g r) (numbers_below n)) (n ∷ []) ∙ (omega arith));
      }

  none_at_all : nat_le 2 (parts g r) ≡ false → part_ids g r ≡ []
  none_at_all two = filter_none (is_part_id g r) (numbers_below (g.next + parts g r)) (λ q. rw two refl)

  pub parts_follow : Follow g.next (part_ids g r)
  parts_follow = elim (cases_Bool (nat_le 2 (parts g r))) [
    | inl two ↦ (in_turn two (parts g r) (omega arith)).follow
    | inr two ↦ rw (none_at_all two) tt
  ]

  pub parts_count : length (part_ids g r) ≡ (if nat_le 2 (parts g r) then parts g r else 0)
  parts_count = elim (cases_Bool (nat_le 2 (parts g r))) [
    | inl two ↦ rw two (in_turn two (parts g r) (omega arith)).count
    | inr two ↦ rw (two, none_at_all two) refl
  ]

  released_few : Rules g → IsGrid g.grid → g.state r ≡ Ticking → must_wait g r ≡ false → cleans g r ≡ true → present_count (release g r) ≤ present_count g
  unfolding release
  released_few rules ok ticks free cleaning = rw (free, cleaning) (present_cleaned g r rules ok ticks free)

  -- each part that a release makes has nine sections
  pub nine_each : Rules g → IsGrid g.grid → g.state r ≡ Ticking → must_wait g r ≡ false → cleans g r ≡ true → 9 * length (part_ids g r) ≤ present_count g
  nine_each rules ok ticks free cleaning = elim (cases_Bool (nat_le 2 (parts g r))) [
    | inl two ↦
        let nine = nine_parts g r free cleaning two (release_keeps g r rules ok ticks) in
        let less = released_few rules ok ticks free cleaning in
        let c : length (part_ids g r) ≡ parts g r = parts_count ∙ rw two refl in omega arith
    | inr two ↦ let c : length (part_ids g r) ≡ 0 = parts_count ∙ rw two refl in omega arith
  ]

  -- and so has the region itself
  pub nine_own : Rules g → g.state r ≡ Ticking → 9 ≤ present_count g
  nine_own rules ticks =
      let some : 0 < r = rules.given r (λ d. cc) in
      let nine = rules.nine_ticking r ticks in
      let own = count_by-mono (λ s. nat_eq (g.owner s) r) (is_present g) (λ s h. let e : g.owner s ≡ r = eqb-true _ _ h in lt-ltb 0 _ (omega arith)) all_sections in omega arith
