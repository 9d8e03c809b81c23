-- The near regions of an Add, and its target.
use Rattle.std.proofs.Common.{le_antisymm, ◌≡◌, ℕ, ◌+◌, ◌≤◌, ◌<◌, refl, sym, arith, true, false, inl, inr, ◌⊎◌, ◌&&◌}
use Rattle.std.specs.Prelude.{◌≢◌, nat_eq, nat_lt}
use Rattle.std.proofs.lemmas.Bool.{cases_Bool, true≢false, and_parts, and_from, eqb-true, eq-eqb, ltb-true, lt-ltb, le-leb, cases_lt, leb-true}
use Rattle.std.proofs.lemmas.Bool.Decides.{nat_tests}
use Rattle.fol_model.specs.declared.places.ChunkPos.{ChunkPos}
use Rattle.fol_model.specs.declared.places.SectionPos.{SectionPos}
use Rattle.fol_model.specs.declared.regions.State.{State}
use Rattle.fol_model.specs.declared.regions.State.TheVariants.{Transient, Ready, Ticking, Dead}
use Rattle.fol_model.specs.Geometry.{distance, is_chunk, section_of}
use Rattle.fol_model.specs.GridNumbers.{IsGrid}
use Rattle.fol_model.specs.Universe.{all_sections}
use Rattle.fol_model.specs.GridState.{GridState, is_ticking, size}
use Rattle.fol_model.specs.Counting.{some_below, least}
use Rattle.fol_model.specs.Add.{is_near, is_near_calm, is_greatest, target, extended}
use Rattle.fol_model.specs.Rules.{Rules}
use Rattle.fol_laws.proofs.NumbersBelow.{some_below-gives, least-le, least-passes, least-below, some_greatest}
use Rattle.fol_laws.proofs.ListCounts.{list_any-gives}
use Rattle.fol_laws.proofs.AllSections.{some_section-is}

pub is_ticking-true : (s : State) → is_ticking s ≡ true → s ≡ Ticking
is_ticking-true Ticking h = refl
is_ticking-true Transient h = absurd (true≢false (sym h))
is_ticking-true Ready h = absurd (true≢false (sym h))
is_ticking-true Dead h = absurd (true≢false (sym h))

module _ (g : GridState) (c : ChunkPos) (rules : Rules g) (ok : IsGrid g.grid) (limits : is_chunk c ≡ true) where
  -- what a near region is
  pub near_has : (r : ℕ) → is_near g c r ≡ true → (0 < r) × ((s : SectionPos) × (g.owner s ≡ r) × (distance (section_of g.grid c) s ≤ g.grid.create + g.grid.merge))
  unfolding is_near
  near_has r h =
      let parts = and_parts (nat_lt 0 r) _ h in
      let s = list_any-gives _ all_sections parts.1 in
      let both = and_parts (nat_eq (g.owner s.0) r) _ s.1 in
      (ltb-true 0 r parts.0, (s.0, eqb-true _ _ both.0, leb-true _ _ both.1))

  pub near_from : (s : SectionPos) → 0 < g.owner s → distance (section_of g.grid c) s ≤ g.grid.create + g.grid.merge → is_near g c (g.owner s) ≡ true
  unfolding is_near
  near_from s p d = and_from _ _ (lt-ltb 0 _ p) (some_section-is _ s (rules.section_limits s p) (and_from _ _ (eq-eqb _ _ refl) (le-leb _ _ d)))

  pub near_lives : (r : ℕ) → is_near g c r ≡ true → g.state r ≢ Dead
  near_lives r h = let n = near_has r h in let s = n.1 in
      let e : g.owner s.0 ≡ r = s.1 in
      let l : g.state (g.owner s.0) ≢ Dead = rules.owner_lives s.0 (rw e n.0) in rw e at l

  pub calm_below : (r : ℕ) → is_near_calm g c r ≡ true → r < g.next
  calm_below r h = rules.below_next r (near_lives r (and_parts _ _ h).0)

  pub greatest_from : (m : ℕ) → is_near_calm g c m ≡ true → ((q : ℕ) → q < g.next → is_near_calm g c q ≡ true → size g q ≤ size g m) → is_greatest g c m ≡ true
  unfolding is_greatest
  greatest_from m h most = elim (cases_Bool (some_below (λ q. is_near_calm g c q && nat_lt (size g m) (size g q)) g.next)) [
    | inl e ↦ let q = some_below-gives _ g.next e in
        let parts = and_parts (is_near_calm g c q.0) _ q.2 in
        let a : size g q.0 ≤ size g m = most q.0 q.1 parts.0 in
        let b : size g m < size g q.0 = ltb-true _ _ parts.1 in
        absurd (omega arith)
    | inr e ↦ and_from _ _ h (rw e refl)
  ]

  pub greatest_calm : (m : ℕ) → is_greatest g c m ≡ true → is_near_calm g c m ≡ true
  unfolding is_greatest
  greatest_calm m h = (and_parts _ _ h).0

  -- the target is a near region that is not Ticking, or the next id where there is none
  pub target_is : (is_near_calm g c (target g c) ≡ true) ⊎ ((target g c ≡ g.next) × ((r : ℕ) → is_near_calm g c r ≡ false))
  unfolding target
  target_is = elim (cases_lt (least (is_greatest g c) g.next) g.next) [
    | inl l ↦ inl (greatest_calm _ (least-passes (is_greatest g c) g.next l))
    | inr l ↦ inr (
      le_antisymm (least-le (is_greatest g c) g.next) l,
      λ r. elim (cases_Bool (is_near_calm g c r)) [
        | inl e ↦ let m = some_greatest (is_near_calm g c) (size g) g.next r (calm_below r e) e in
            let b : least (is_greatest g c) g.next ≤ m.0 = least-below (is_greatest g c) g.next m.0 m.1 (greatest_from m.0 m.2 m.3) in
            absurd (omega (arith, m.1))
        | inr e ↦ e
      ],
    )
  ]

  pub target_pos : 0 < target g c
  target_pos = elim target_is [ inl h ↦ (near_has (target g c) (and_parts _ _ h).0).0 | inr h ↦ omega (arith, h.0, rules.next_id) ]

  pub target_below : target g c < (extended g c).next
  target_below = elim target_is [
    | inl h ↦ let l : target g c < g.next = calm_below (target g c) h in grind (arith, nat_tests)
    | inr h ↦ let e : target g c ≡ g.next = h.0 in grind (arith, nat_tests)
  ]

  pub extended_next : g.next ≤ (extended g c).next
  extended_next = grind (arith, nat_tests)
