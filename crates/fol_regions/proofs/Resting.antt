-- The tick of a region with few dead sections leaves the regions as they are.
use Rattle.std.proofs.Common.{◌≡◌, ℕ, zero, suc, ◌*◌, ◌≤◌, ◌<◌, refl, sym, ◌∙◌, ap, arith, Bool, true, false, inl, inr, not, ◌&&◌, ◌||◌}
use Rattle.std.specs.Prelude.{nat_eq, nat_lt, nat_le, if◌then◌else◌}
use Rattle.std.proofs.Math.Path.{fun_ext}
use Rattle.std.proofs.lemmas.Bool.{cases_Bool, eq-eqb, eqb-true, ne_eqb, true≢false, and_parts, ltb-true, not-true}
use Rattle.fol_model.specs.declared.places.SectionPos.{SectionPos}
use Rattle.fol_model.specs.declared.regions.State.TheVariants.{Ready, Ticking}
use Rattle.fol_model.specs.Begin.{begin}
use Rattle.fol_model.specs.Counters.{joins, owed_after_release, tick_after_release}
use Rattle.fol_model.specs.Counting.{greatest_below, some_below}
use Rattle.fol_model.specs.GridState.{GridState, in_margin, size, with_state}
use Rattle.fol_model.specs.Release.{release, joined_owner, joined_size, joined_dead, passes_on, must_wait, cleans, rested, is_new_part}
use Rattle.fol_model.specs.Rules.{Rules}
use Rattle.fol_model.specs.Universe.{count_sections}
use Rattle.fol_laws.proofs.GreatestBelow.{greatest-at_least, greatest-at_most}
use Rattle.fol_regions.specs.DeadBounds.{dead_count}
use Rattle.fol_regions.proofs.JoinTest.{grid_is}
use Rattle.fol_regions.proofs.ReleaseFacts.{fewer_worn}

none_below : (p : ℕ → Bool) (n : ℕ) → ((k : ℕ) → p k ≡ false) → some_below p n ≡ false
unfolding some_below
none_below p zero h = refl
none_below p (suc n) h = rw (h n) (none_below p n h)

module _ (g : GridState) (t : ℕ) (rules : Rules g) (ready : g.state t ≡ Ready) where
  -- no region waits for a Ready one
  awaits_none : (u : ℕ) → g.waits u t ≡ false
  awaits_none u = elim (cases_Bool (g.waits u t)) [
    | inl e ↦ absurd (let x = rules.awaited u t e in cc)
    | inr e ↦ e
  ]

  joins_none : some_below (λ u. (begin g t).waits u t) (begin g t).next ≡ false
  unfolding begin
  joins_none = none_below (λ u. g.waits u t) g.next awaits_none

  passes_none : (v : ℕ) → passes_on (begin g t) t v ≡ false
  unfolding passes_on begin
  passes_none v =
      let none : some_below (λ u. g.waits u t && g.waits u v) g.next ≡ false = none_below (λ u. g.waits u t && g.waits u v) g.next (λ u. let n = awaits_none u in rw n refl) in
      rw none (elim (cases_Bool (nat_eq v t)) [ inl e ↦ rw e refl | inr e ↦ rw e refl ])

  waits_not : must_wait (begin g t) t ≡ false
  waits_not = none_below (passes_on (begin g t) t) (begin g t).next passes_none

  owner_same : joined_owner (begin g t) t ≡ g.owner
  unfolding begin
  owner_same = fun_ext (λ s. let n = awaits_none (g.owner s) in rw n refl)

  size_same : joined_size (begin g t) t ≡ size g t
  size_same = ap (λ (owner : SectionPos → ℕ). count_sections (λ s. nat_eq (owner s) t)) owner_same

  dead_same : joined_dead (begin g t) t ≡ dead_count g t
  unfolding dead_count begin in_margin
  dead_same = ap (λ (owner : SectionPos → ℕ). count_sections (λ s. nat_eq (owner s) t && not (in_margin g s))) owner_same

  -- the region was Ready before its tick
  state_same : (r : ℕ) → (if nat_eq r t then Ready else with_state g.state t Ticking r) ≡ g.state r
  state_same r = elim (cases_Bool (nat_eq r t)) [
    | inl e ↦ let is : g.state r ≡ Ready = ap g.state (eqb-true r t e) ∙ ready in rw (e, is) refl
    | inr e ↦ let other : nat_eq t r ≡ false = ne_eqb t r (λ i. true≢false (sym (eq-eqb r t (sym i)) ∙ e)) in rw (e, other) refl
  ]

  -- at most so many of its sections are dead, and that is too few to clean it
  module _ (most : ℕ) (few : dead_count g t ≤ most)
      (rest : (nat_lt most (size g t) && not (nat_le g.grid.min (size g t) && nat_le (size g t * g.grid.num) (most * g.grid.den))) ≡ true) where
    worn_not : (nat_le g.grid.min (size g t) && nat_le (size g t * g.grid.num) (dead_count g t * g.grid.den)) ≡ false
    worn_not = fewer_worn g.grid.min (size g t) g.grid.num g.grid.den (dead_count g t) most few (not-true _ (and_parts (nat_lt most (size g t)) _ rest).1)

    some_lives : nat_eq (dead_count g t) (size g t) ≡ false
    some_lives =
        let less : most < size g t = ltb-true most (size g t) (and_parts (nat_lt most (size g t)) _ rest).0 in
        ne_eqb (dead_count g t) (size g t) (λ e. absurd (omega arith))

    cleans_not : cleans (begin g t) t ≡ false
    unfolding cleans begin
    cleans_not = rw (joins_none, size_same, dead_same, some_lives) worn_not

    pub stays : release (begin g t) t ≡ g
    unfolding release begin
    stays = rw (waits_not, cleans_not) (grid_is (rested (begin g t) t) g refl refl refl (fun_ext state_same) refl refl)

    parts_none : (r : ℕ) → is_new_part (begin g t) t r ≡ false
    parts_none r = rw (waits_not, cleans_not) refl

    pub ticks_stay : (tick : ℕ → ℕ) (r : ℕ) → tick_after_release (begin g t) t tick r ≡ tick r
    unfolding tick_after_release
    ticks_stay tick r = rw (parts_none r) refl

    owes_alone : (owed : ℕ → ℕ) → greatest_below (joins (begin g t) t) owed (begin g t).next ≡ owed t
    unfolding begin
    owes_alone owed =
        let own : (nat_eq t t || g.waits t t) ≡ true = let e = eq-eqb t t refl in rw e refl in
        let low : owed t ≤ greatest_below (joins (begin g t) t) owed g.next = greatest-at_least (joins (begin g t) t) owed g.next t (rules.below_next t (λ d. let k = ready in cc)) own in
        let high : greatest_below (joins (begin g t) t) owed g.next ≤ owed t = greatest-at_most (joins (begin g t) t) owed g.next (owed t) (λ u l j. let n = awaits_none u in elim (cases_Bool (nat_eq u t)) [
          | inl e ↦ let same = ap owed (eqb-true u t e) in omega (arith, same)
          | inr e ↦ absurd (true≢false (sym j ∙ rw (e, n) refl))
        ]) in
        omega (arith, low, high)

    pub owed_stay : (owed : ℕ → ℕ) (r : ℕ) → owed_after_release (begin g t) t owed r ≡ owed r
    unfolding owed_after_release
    owed_stay owed r = elim (cases_Bool (nat_eq r t)) [
      | inl e ↦ rw e (owes_alone owed ∙ ap owed (sym (eqb-true r t e)))
      | inr e ↦ rw (e, parts_none r) refl
    ]
