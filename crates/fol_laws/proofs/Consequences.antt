-- What follows from the rules.
use Rattle.std.proofs.Common.{◌≡◌, ℕ, zero, suc, ◌+◌, ◌*◌, ◌≤◌, ◌<◌, refl, sym, ◌∙◌, ap, arith, Bool, true, false, inl, inr, ◌&&◌, ◌||◌, List, [], ◌∷◌}
use Rattle.std.specs.Prelude.{nat_eq, nat_lt}
use Rattle.std.specs.List.{count_by}
use Rattle.std.proofs.lemmas.Bool.{cases_Bool, cases_lt, or_cases, true≢false, and_parts, and_from, eqb-true, ne_eqb, ltb-true, lt-ltb}
use Rattle.fol_model.specs.declared.places.ChunkPos.{ChunkPos}
use Rattle.fol_model.specs.declared.places.SectionPos.{SectionPos}
use Rattle.fol_model.specs.declared.regions.State.TheVariants.{Transient, Ready, Ticking, Dead}
use Rattle.fol_model.specs.Geometry.{distance, section_of}
use Rattle.fol_model.specs.GridNumbers.{IsGrid}
use Rattle.fol_model.specs.Universe.{all_sections, count_sections}
use Rattle.fol_model.specs.GridState.{GridState, is_ready, is_ticking, is_present, present_count, size}
use Rattle.fol_model.specs.Counting.{count_below}
use Rattle.fol_model.specs.Rules.{Rules}
use Rattle.fol_laws.specs.Consequences.{ReadyHasMargin, TickingApart, NoneWaits, FewLive}
use Rattle.fol_laws.proofs.NumbersBelow.{some_below-gives}
use Rattle.fol_laws.proofs.ListCounts.{count_by-cons, count_by-mono}
use Rattle.fol_laws.proofs.Distances.{distance_swap, nearer, no_distance}

lower : (o n : ℕ) → (nat_lt 0 o && nat_lt o n) ≡ true → ((nat_lt 0 o && nat_lt o (suc n)) ≡ true) × (nat_eq o n ≡ false)
lower o n h = let p = and_parts (nat_lt 0 o) (nat_lt o n) h in
    let l : o < n = ltb-true _ _ p.1 in (and_from _ _ p.0 (lt-ltb o (suc n) (omega arith)), ne_eqb _ _ (λ e. omega arith))

upper : (o n : ℕ) → 0 < n → nat_eq o n ≡ true → (nat_lt 0 o && nat_lt o (suc n)) ≡ true
upper o n p h = let e : o ≡ n = eqb-true _ _ h in and_from _ _ (lt-ltb 0 o (omega arith)) (lt-ltb o (suc n) (omega arith))

module _ (g : GridState) (rules : Rules g) where
  -- beside a Ready region's section there is no other region's
  beside_ready : (a b : SectionPos) → 0 < g.owner a → 0 < g.owner b → distance a b ≤ g.grid.merge → g.state (g.owner a) ≡ Ready → g.owner b ≡ g.owner a
  beside_ready a b pa pb d r = elim (or_cases (nat_eq (g.owner a) (g.owner b)) (g.waits (g.owner a) (g.owner b) || g.waits (g.owner b) (g.owner a)) (rules.together a b pa pb d)) [
    | inl e ↦ sym (eqb-true _ _ e)
    | inr e ↦ elim (or_cases (g.waits (g.owner a) (g.owner b)) (g.waits (g.owner b) (g.owner a)) e) [
      | inl w ↦ let x = rules.waiting _ _ w in absurd (cc)
      | inr w ↦ let x = rules.awaited _ _ w in absurd (cc)
    ]
  ]

  reach_margin : IsGrid g.grid → (c : ChunkPos) → 0 < g.holds c → g.state (g.owner (section_of g.grid c)) ≡ Ready → (k : ℕ) (q : SectionPos) → k ≤ g.grid.create → distance (section_of g.grid c) q ≤ k → g.owner q ≡ g.owner (section_of g.grid c)
  reach_margin ok c h r zero q l d = ap g.owner (sym (no_distance (section_of g.grid c) q d))
  reach_margin ok c h r (suc k) q l d =
      let p = nearer (section_of g.grid c) q k d in
      let e = reach_margin ok c h r k p.0 (omega arith) p.1 in
      let s : distance p.0 q ≤ g.grid.merge = rw distance_swap (omega (arith, p.2, ok.merge_low)) in
      beside_ready p.0 q (rules.margin c p.0 h (omega (arith, p.1))) (rules.margin c q h (omega arith)) s (rw e r) ∙ e

  pub ready_has_margin : IsGrid g.grid → ReadyHasMargin g
  ready_has_margin ok c s h r d = reach_margin ok c h r g.grid.create s (omega arith) d

  pub ticking_apart : TickingApart g
  ticking_apart a b pa pb ta tb n = elim (cases_lt g.grid.merge (distance a b)) [
    | inl l ↦ l
    | inr l ↦ elim (or_cases (nat_eq (g.owner a) (g.owner b)) (g.waits (g.owner a) (g.owner b) || g.waits (g.owner b) (g.owner a)) (rules.together a b pa pb l)) [
      | inl e ↦ absurd (n (eqb-true _ _ e))
      | inr e ↦ elim (or_cases (g.waits (g.owner a) (g.owner b)) (g.waits (g.owner b) (g.owner a)) e) [
        | inl w ↦ let x = rules.waiting _ _ w in absurd (cc)
        | inr w ↦ let x = rules.waiting _ _ w in absurd (cc)
      ]
    ]
  ]

  pub none_waits : NoneWaits g
  none_waits none r h = let v = some_below-gives (g.waits r) g.next (rules.has_pair r h) in none v.0 (rules.awaited r v.0 v.2)

  live_nine : (r : ℕ) → (is_ready (g.state r) || is_ticking (g.state r)) ≡ true → (0 < r) × (9 ≤ size g r)
  live_nine r h = elim (g.state r) as (λ v. g.state r ≡ v → (is_ready v || is_ticking v) ≡ true → (0 < r) × (9 ≤ size g r)) [
    | Ready ↦ λ e _. (rules.given r (λ d. cc), rules.nine_ready r e)
    | Ticking ↦ λ e _. (rules.given r (λ d. cc), rules.nine_ticking r e)
    | Transient ↦ λ e k. absurd (true≢false (sym k))
    | Dead ↦ λ e k. absurd (true≢false (sym k))
  ] refl h

  count_apart : (p q r : SectionPos → Bool) → ((x : SectionPos) → p x ≡ true → (r x ≡ true) × (q x ≡ false)) → ((x : SectionPos) → q x ≡ true → r x ≡ true) → (xs : List SectionPos) → count_by p xs + count_by q xs ≤ count_by r xs
  count_apart p q r a b [] = omega arith
  count_apart p q r a b (x ∷ xs) = grind (arith, count_by-cons p x xs, count_by-cons q x xs, count_by-cons r x xs, count_apart p q r a b xs, a x, b x)

  nine_each : (n : ℕ) → 9 * count_below (λ r. is_ready (g.state r) || is_ticking (g.state r)) n ≤ count_sections (λ s. nat_lt 0 (g.owner s) && nat_lt (g.owner s) n)
  unfolding count_below
  nine_each zero = omega arith
  nine_each (suc n) = elim (cases_Bool (is_ready (g.state n) || is_ticking (g.state n))) [
    | inl e ↦ let k = live_nine n e in
        let m = count_apart (λ s. nat_lt 0 (g.owner s) && nat_lt (g.owner s) n) (λ s. nat_eq (g.owner s) n) (λ s. nat_lt 0 (g.owner s) && nat_lt (g.owner s) (suc n)) (λ s h. lower (g.owner s) n h) (λ s h. upper (g.owner s) n k.0 h) all_sections in
        rw e (omega (arith, nine_each n, k.1))
    | inr e ↦ let m = count_by-mono (λ s. nat_lt 0 (g.owner s) && nat_lt (g.owner s) n) (λ s. nat_lt 0 (g.owner s) && nat_lt (g.owner s) (suc n)) (λ s h. (lower (g.owner s) n h).0) all_sections in
        rw e (omega (arith, nine_each n))
  ]

  -- the regions that are Ready or Ticking have nine sections each
  pub nine_live : 9 * count_below (λ r. is_ready (g.state r) || is_ticking (g.state r)) g.next ≤ present_count g
  nine_live = let a = nine_each g.next in
      let b = count_by-mono (λ s. nat_lt 0 (g.owner s) && nat_lt (g.owner s) g.next) (is_present g) (λ s h. (and_parts (nat_lt 0 (g.owner s)) _ h).0) all_sections in omega arith

  pub few_live : FewLive g
  few_live = let a = nine_live in let c = rules.count in omega arith
