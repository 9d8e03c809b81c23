-- The numbers that the dead sections of each region are at most, after an added hold and after a release.
use Rattle.std.proofs.Common.{◌≡◌, ℕ, ◌+◌, ◌≤◌, ◌<◌, refl, sym, ◌∙◌, ap, arith, Bool, true, false, inl, inr, not, ◌&&◌, List, [], ◌∷◌, length}
use Rattle.std.specs.Prelude.{◌≢◌, nat_eq, nat_le, nat_lt, if◌then◌else◌, min}
use Rattle.std.specs.List.{list_any}
use Rattle.std.proofs.Math.Bool.{or-false}
use Rattle.std.proofs.lemmas.Bool.{cases_Bool, cases_eq, cases_lt, true≢false, and_parts, and_from, lt-ltb, ltb-false, ltb-true, leb-true, eq-eqb, eqb-true, ne_eqb}
use Rattle.fol_model.specs.declared.places.ChunkPos.{ChunkPos}
use Rattle.fol_model.specs.declared.places.SectionPos.{SectionPos}
use Rattle.fol_model.specs.declared.regions.State.TheVariants.{Ticking}
use Rattle.fol_model.specs.Add.{add, counted, extended, is_full, is_near_calm, is_wanted, target, wanted}
use Rattle.fol_model.specs.Geometry.{is_chunk, is_within, same_chunk, section_of}
use Rattle.fol_model.specs.GridNumbers.{IsGrid}
use Rattle.fol_model.specs.GridState.{GridState, at_chunk, in_margin, is_present}
use Rattle.fol_model.specs.Release.{release, cleaned, cleans, held, is_part_id, joined_owner, must_wait, parts, rested}
use Rattle.fol_model.specs.Rules.{Rules}
use Rattle.fol_model.specs.Universe.{all_sections, numbers_below}
use Rattle.fol_laws.proofs.AddTarget.{calm_below, target_is}
use Rattle.fol_laws.proofs.AllSections.{some_chunk-is, some_chunk-gives}
use Rattle.fol_laws.proofs.ListCounts.{count_by-none}
use Rattle.fol_laws.proofs.SamePlaces.{same_chunk-self}
use Rattle.fol_regions.specs.Added.{is_id}
use Rattle.fol_regions.specs.Changes.{add_change, drawn_in, into, release_change}
use Rattle.fol_regions.specs.declared.change.MergePair.{MergePair}
use Rattle.fol_regions.specs.declared.dead_bounds.Known.{Known}
use Rattle.fol_regions.specs.DeadBounds.{BoundsDead, dead_count, most_in}
use Rattle.fol_region_tables.proofs.Chosen.{chosen_below}
use Rattle.fol_region_tables.proofs.PartedBooks.{filter_none}
use Rattle.fol_regions.proofs.DyingSteps.{dead_few, dead_fewer}

same_margin : (g h : GridState) → h.grid ≡ g.grid → h.holds ≡ g.holds → (s : SectionPos) → in_margin h s ≡ in_margin g s
unfolding in_margin
same_margin g h grid holds s = rw (grid, holds) refl

-- the same owners and holds
pub bounds_same : (g h : GridState) (most : List Known) → h.grid ≡ g.grid → h.owner ≡ g.owner → h.holds ≡ g.holds → BoundsDead g (most_in most) → BoundsDead h (most_in most)
bounds_same g h most grid owner holds b = record { at = λ r p. omega (arith, b.at r p, dead_fewer g h r (λ s o e. (ap (λ f. f s) (sym owner) ∙ o, sym (same_margin g h grid holds s) ∙ e))) }

-- nothing is known, and no region has more than 16,384
pub bounds_none : (g : GridState) (most : List Known) → Rules g → ((r : ℕ) → most_in most r ≡ 16384) → BoundsDead g (most_in most)
bounds_none g most rules none = record { at = λ r p. omega (arith, dead_few g r rules p, none r) }

-- a region whose id was not given out has no section
unborn_none : (g : GridState) → Rules g → (r : ℕ) → 0 < r → g.next ≤ r → dead_count g r ≡ 0
unfolding dead_count
unborn_none g rules r p later = count_by-none (λ s. nat_eq (g.owner s) r && not (in_margin g s)) (λ s. none s) all_sections
  where
    none : (s : SectionPos) → (nat_eq (g.owner s) r && not (in_margin g s)) ≡ false
    none s =
        let other : nat_eq (g.owner s) r ≡ false = ne_eqb (g.owner s) r (λ e. let l = rules.below_next (g.owner s) (rules.owner_lives s (omega (arith, e, p))) in omega (arith, l, e, later)) in
        rw other refl

-- ---- an added hold
module _ (g : GridState) (c : ChunkPos) (rules : Rules g) (ok : IsGrid g.grid) (limits : is_chunk c ≡ true) where
  abbrev more : ChunkPos → ℕ
  more = at_chunk g.holds c (g.holds c + 1)

  more_loaded : (q : ChunkPos) → nat_lt 0 (g.holds q) ≡ true → nat_lt 0 (more q) ≡ true
  more_loaded q l = elim (cases_Bool (same_chunk c q)) [
    | inl e ↦ rw e (lt-ltb 0 (g.holds c + 1) (omega arith))
    | inr e ↦ rw e l
  ]

  module _ (h : GridState) (grid : h.grid ≡ g.grid) (holds : h.holds ≡ more) where
    margin_by : (q : ChunkPos) (s : SectionPos) → is_chunk q ≡ true → nat_lt 0 (more q) ≡ true → is_within (section_of g.grid q) g.grid.create s ≡ true → in_margin h s ≡ true
    unfolding in_margin
    margin_by q s l p w = some_chunk-is (λ x. nat_lt 0 (h.holds x) && is_within (section_of h.grid x) h.grid.create s) q l (and_from (nat_lt 0 (h.holds q)) (is_within (section_of h.grid q) h.grid.create s) (ap (λ f. nat_lt 0 (f q)) holds ∙ p) (rw grid w))

    margin_stays : (s : SectionPos) → in_margin h s ≡ false → in_margin g s ≡ false
    unfolding in_margin
    margin_stays s e = elim (cases_Bool (in_margin g s)) [
      | inr x ↦ x
      | inl x ↦
          let q = some_chunk-gives (λ q. nat_lt 0 (g.holds q) && is_within (section_of g.grid q) g.grid.create s) x in
          let both = and_parts (nat_lt 0 (g.holds q.0)) (is_within (section_of g.grid q.0) g.grid.create s) q.2 in
          absurd (true≢false (sym (margin_by q.0 s q.1 (more_loaded q.0 both.0) both.1) ∙ e))
    ]

    wanted_lives : (s : SectionPos) → in_margin h s ≡ false → is_wanted g c s ≡ false
    wanted_lives s e = elim (cases_Bool (is_wanted g c s)) [
      | inr x ↦ x
      | inl x ↦
          let w = (and_parts (not (is_present g s)) (is_within (section_of g.grid c) g.grid.create s) x).1 in
          let same = same_chunk-self c in
          let l : nat_lt 0 (more c) ≡ true = rw same (lt-ltb 0 (g.holds c + 1) (omega arith)) in
          absurd (true≢false (sym (margin_by c s limits l w) ∙ e))
    ]

  pub dead_counted : (r : ℕ) → dead_count (counted g c) r ≤ dead_count g r
  dead_counted r = dead_fewer g (counted g c) r (λ s o e. (o, margin_stays (counted g c) refl refl s e))

  -- a region that no other becomes part of
  dead_extended : (r : ℕ) → (target g c ≡ r → drawn_in g c ≡ []) → dead_count (extended g c) r ≤ dead_count g r
  dead_extended r alone = dead_fewer g (extended g c) r (λ s o e. (owner_was s o (wanted_lives (extended g c) refl refl s e), margin_stays (extended g c) refl refl s e))
    where
      drawn : ℕ → Bool
      drawn q = is_near_calm g c q && not (nat_eq (target g c) q)

      none_drawn : drawn_in g c ≡ [] → (q : ℕ) → drawn q ≡ false
      none_drawn e q = sym (chosen_below drawn g.next (λ n y. calm_below g c rules ok limits n (and_parts (is_near_calm g c n) (not (nat_eq (target g c) n)) y).0) q) ∙ ap (λ ns. list_any (nat_eq q) ns) e

      owner_was : (s : SectionPos) → (extended g c).owner s ≡ r → is_wanted g c s ≡ false → g.owner s ≡ r
      owner_was s o w = elim (cases_Bool (is_near_calm g c (g.owner s))) [
        | inr n ↦ rw (w, n) at o
        | inl n ↦
            let is : target g c ≡ r = rw (w, n) at o in
            let d = none_drawn (alone is) (g.owner s) in
            elim (cases_Bool (nat_eq (target g c) (g.owner s))) [
              | inl y ↦ sym (eqb-true (target g c) (g.owner s) y) ∙ is
              | inr y ↦ absurd (true≢false (sym (and_from (is_near_calm g c (g.owner s)) (not (nat_eq (target g c) (g.owner s))) n (rw y refl)) ∙ d))
            ]
      ]

  pub dead_added : (r : ℕ) → (is_full g c ≡ false → nat_eq (wanted g c) 0 ≡ false → target g c ≡ r → drawn_in g c ≡ []) → dead_count (add g c) r ≤ dead_count g r
  unfolding add
  dead_added r alone = elim (cases_Bool (is_full g c)) [
    | inl f ↦ rw f (omega arith)
    | inr f ↦ elim (cases_Bool (nat_eq (wanted g c) 0)) [
      | inl z ↦ rw (f, z) (dead_counted r)
      | inr z ↦ rw (f, z) (dead_extended r (alone f z))
    ]
  ]

  -- a new region has an id that was not given out, and no other becomes part of it
  created_next : (r : ℕ) → is_id (add_change g c).created r ≡ true → (r ≡ g.next) × (target g c ≡ g.next)
  unfolding add_change
  created_next r h = elim (cases_Bool (is_full g c)) [
    | inl f ↦ let n = rw f at h in absurd (true≢false (sym n))
    | inr f ↦ elim (cases_Bool (nat_eq (wanted g c) 0)) [
      | inl z ↦ let n = rw (f, z) at h in absurd (true≢false (sym n))
      | inr z ↦ elim (cases_Bool (nat_eq (target g c) g.next)) [
        | inl y ↦ let n = rw (f, z, y) at h in (eqb-true r g.next (sym (or-false (nat_eq r g.next)) ∙ n), eqb-true (target g c) g.next y)
        | inr y ↦ let n = rw (f, z, y) at h in absurd (true≢false (sym n))
      ]
    ]
  ]

  none_drawn : target g c ≡ g.next → drawn_in g c ≡ []
  none_drawn e = elim (target_is g c rules ok limits) [
    | inl y ↦ let l = calm_below g c rules ok limits (target g c) y in absurd (omega (arith, l, e))
    | inr n ↦ filter_none (λ r. is_near_calm g c r && not (nat_eq (target g c) r)) (numbers_below g.next) (λ r. ap (λ b. b && not (nat_eq (target g c) r)) (n.1 r))
  ]

  -- and none of its sections is dead
  pub added_live : (h : GridState) → h ≡ add g c → (created : List ℕ) → created ≡ (add_change g c).created → (r : ℕ) → 0 < r → is_id created r ≡ true → dead_count h r ≡ 0
  added_live h is created same r p y =
      let new = created_next r (sym (ap (λ ids. is_id ids r) same) ∙ y) in
      omega (arith, dead_added r (λ f z e. none_drawn new.1), unborn_none g rules r p (omega (arith, new.0)), ap (λ x. dead_count x r) is)

  -- the regions that become part of the target
  abbrev joined : List ℕ
  joined = if is_full g c then [] else (if nat_eq (wanted g c) 0 then [] else drawn_in g c)

  merges_are : (add_change g c).merges ≡ into (target g c) joined
  unfolding add_change
  merges_are = elim (cases_Bool (is_full g c)) [
    | inl f ↦ rw f refl
    | inr f ↦ elim (cases_Bool (nat_eq (wanted g c) 0)) [ inl z ↦ rw (f, z) refl | inr z ↦ rw (f, z) refl ]
  ]

  -- the numbers of all regions, where nothing is known any more of a region that others became part of
  pub bounds_added : (h : GridState) → h ≡ add g c → Rules h → (old new : List Known) → BoundsDead g (most_in old) → (merges : List MergePair) → merges ≡ (add_change g c).merges
      → ((t : ℕ) (us : List ℕ) → merges ≡ into t us → (r : ℕ) → min 16384 (if (nat_eq t r && nat_lt 0 (length us)) then 16384 else most_in old r) ≤ most_in new r) → BoundsDead h (most_in new)
  bounds_added h is after old new bounds merges same noted = record {
    at = λ r p.
        let few = dead_few h r after p in
        let n = noted (target g c) joined (same ∙ merges_are) r in
        elim (cases_Bool (nat_eq (target g c) r && nat_lt 0 (length joined))) [
          | inl y ↦ let m = rw y at n in omega (arith, m, few)
          | inr y ↦
              let m = rw y at n in
              let d = dead_added r (λ f z e. none_joined f z (no_length (nat_eq (target g c) r) (eq-eqb _ _ e) y)) in
              omega (arith, m, few, bounds.at r p, d, ap (λ x. dead_count x r) is)
        ];
  }
    where
      no_length : (b : Bool) → b ≡ true → (b && nat_lt 0 (length joined)) ≡ false → length joined ≡ 0
      no_length b e y = let m = rw e at y in let l = ltb-false 0 (length joined) m in omega (arith, l)

      by_length : (xs : List ℕ) → length xs ≡ 0 → xs ≡ []
      by_length [] e = refl
      by_length (x ∷ xs) e = absurd (omega arith)

      none_joined : is_full g c ≡ false → nat_eq (wanted g c) 0 ≡ false → length joined ≡ 0 → drawn_in g c ≡ []
      none_joined f z e = let m = rw (f, z) at e in by_length (drawn_in g c) m

-- ---- the end of a tick
module _ (g : GridState) (t : ℕ) (rules : Rules g) (ticks : g.state t ≡ Ticking) where
  joined_was : (s : SectionPos) (r : ℕ) → joined_owner g t s ≡ r → r ≢ t → g.owner s ≡ r
  joined_was s r o n = elim (cases_Bool (g.waits (g.owner s) t)) [ inl w ↦ absurd (n (sym (rw w at o))) | inr w ↦ rw w at o ]

  cleaned_was : (s : SectionPos) (r : ℕ) → 0 < r → r ≢ t → (cleaned g t).owner s ≡ r → in_margin g s ≡ false → g.owner s ≡ r
  cleaned_was s r p n o m = elim (cases_Bool (nat_eq (joined_owner g t s) t)) [
    | inl j ↦ let z : 0 ≡ r = rw (j, m) at o in absurd (omega arith)
    | inr j ↦ rw j at o
  ]

  -- another region
  pub dead_released : (r : ℕ) → 0 < r → r ≢ t → dead_count (release g t) r ≤ dead_count g r
  unfolding release
  dead_released r p n = elim (cases_Bool (must_wait g t)) [
    | inl m ↦ rw m (dead_fewer g (held g t) r (λ s o e. (joined_was s r o n, sym (same_margin g (held g t) refl refl s) ∙ e)))
    | inr m ↦ elim (cases_Bool (cleans g t)) [
      | inl k ↦ rw (m, k) (dead_fewer g (cleaned g t) r (λ s o e. let x = sym (same_margin g (cleaned g t) refl refl s) ∙ e in (cleaned_was s r p n o x, x)))
      | inr k ↦ rw (m, k) (dead_fewer g (rested g t) r (λ s o e. (o, sym (same_margin g (rested g t) refl refl s) ∙ e)))
    ]
  ]

  -- the numbers of all regions, where that of t is set
  pub bounds_released : (h : GridState) → h ≡ release g t → Rules h → (old new : List Known) (left : ℕ) → BoundsDead g (most_in old) → (left < 16384 → dead_count h t ≤ left)
      → ((r : ℕ) → min 16384 (if nat_eq t r then left else most_in old r) ≤ most_in new r) → BoundsDead h (most_in new)
  bounds_released h is after old new left bounds at_t set = record {
    at = λ r p.
        let few = dead_few h r after p in
        let n = set r in
        elim (cases_eq r t) [
          | inl e ↦
              let y : nat_eq t r ≡ true = eq-eqb t r (sym e) in
              let m = rw y at n in
              let f = rw e at few in
              let k = rw e at m in
              rw e (elim (cases_lt left 16384) [ inl l ↦ omega (arith, k, at_t l) | inr l ↦ omega (arith, k, f) ])
          | inr e ↦
              let y : nat_eq t r ≡ false = ne_eqb t r (λ x. e (sym x)) in
              let m = rw y at n in
              let d = dead_released r p e in
              let f = few in
              omega (arith, m, bounds.at r p, d, f, ap (λ x. dead_count x r) is)
        ];
  }

  -- the regions that a release creates have ids that were not given out
  pub created_later : (r : ℕ) → is_id (release_change g t).created r ≡ true → g.next ≤ r
  unfolding release_change
  created_later r h = elim (cases_Bool (must_wait g t)) [
    | inl m ↦ let n = rw m at h in absurd (true≢false (sym n))
    | inr m ↦ elim (cases_Bool (cleans g t)) [
      | inl k ↦
          let n = rw (m, k) at h in
          let part = sym (chosen_below (is_part_id g t) (g.next + parts g t) part_below r) ∙ n in
          leb-true g.next r (and_parts (nat_le g.next r) (nat_lt r (g.next + parts g t)) (and_parts (nat_le 2 (parts g t)) (nat_le g.next r && nat_lt r (g.next + parts g t)) part).1).0
      | inr k ↦ let n = rw (m, k) at h in absurd (true≢false (sym n))
    ]
  ]
    where
      part_below : (q : ℕ) → is_part_id g t q ≡ true → q < g.next + parts g t
      part_below q y = ltb-true q (g.next + parts g t) (and_parts (nat_le g.next q) (nat_lt q (g.next + parts g t)) (and_parts (nat_le 2 (parts g t)) (nat_le g.next q && nat_lt q (g.next + parts g t)) y).1).1

  -- and none of their sections is dead
  pub created_live : (h : GridState) → h ≡ release g t → (created : List ℕ) → created ≡ (release_change g t).created → (r : ℕ) → 0 < r → is_id created r ≡ true → dead_count h r ≡ 0
  created_live h is created same r p y =
      let later : g.next ≤ r = created_later r (sym (ap (λ ids. is_id ids r) same) ∙ y) in
      let given : t < g.next = rules.below_next t (λ d. let z = sym ticks ∙ d in cc) in
      let other : r ≢ t = λ e. omega (arith, e, later, given) in
      omega (arith, dead_released r p other, unborn_none g rules r p later, ap (λ x. dead_count x r) is)

-- the numbers of all regions, where new ones have no dead section
pub bounds_created : (h : GridState) (old new : List Known) (ids : List ℕ) → Rules h → BoundsDead h (most_in old) → ((r : ℕ) → 0 < r → is_id ids r ≡ true → dead_count h r ≡ 0)
    → ((r : ℕ) → (if is_id ids r then 0 else min 16384 (most_in old r)) ≤ most_in new r) → BoundsDead h (most_in new)
bounds_created h old new ids rules bounds none noted = record {
  at = λ r p. elim (cases_Bool (is_id ids r)) [
    | inl y ↦ omega (arith, none r p y)
    | inr y ↦ let n = noted r in let m = rw y at n in omega (arith, m, bounds.at r p, dead_few h r rules p)
  ];
}
