-- The sections of lists of runs: which run a section is in, and the order of the runs.
use Rattle.std.proofs.Common.{◌≡◌, ℕ, zero, suc, ◌+◌, ◌<◌, ◌≤◌, refl, sym, ◌∙◌, ap, arith, true, false, ◌&&◌, ◌||◌, ◌⊎◌, inl, inr, List, [], ◌∷◌, ◌++◌, length, get_or, drop, subst, append_assoc, length-append}
use Rattle.std.specs.Prelude.{ℤ, pos, ◌-ℤ◌, ◌<ℤ◌, ◌≤ℤ◌, int_le, int_lt, nat_abs, nat_eq, nat_le, nat_lt, IsTrue}
use Rattle.std.specs.List.{AllByRecursion}
use Rattle.std.specs.List.Sorted.{IsStrictlySortedBy, IsPartitionedBy}
use Rattle.std.specs.Ordering.{nat_cmp, int_eq}
use Rattle.std.specs.Cmp.{both_ways}
use Rattle.std.specs.declared.cmp.Ordering.TheVariants.{Less}
use Rattle.std.proofs.lemmas.Bool.{cases_Bool, cases_eq, cases_lt, and_parts, and_from, or_cases, or_left, or_right, leb-true, le-leb, ltb-true, lt-ltb, true≢false}
use Rattle.std.proofs.lemmas.Bool.Decides.{nat_tests, Decides-int_eq}
use Rattle.std.proofs.lemmas.List.{at_drop_more, drop_all}
use Rattle.std.proofs.lemmas.List.Folds.{list_any_at}
use borrow.Author.Differences.{ints}
use Rattle.fol_model.specs.declared.places.SectionPos.{SectionPos}
use Rattle.fol_model.specs.Geometry.{is_section, is_among}
use Rattle.fol_model.specs.Universe.{section_cmp}
use Rattle.fol_split.specs.declared.runs.Run.{Run}
use Rattle.fol_split.specs.Runs.{no_run, AreRuns, sections_of, first_of, all_of, run_at, sections_at, is_place, ends_before, begins_before, is_across, is_met}
use Rattle.fol_split.proofs.Places.{less-gives, section_near}
use Rattle.fol_split.proofs.Rows.{in_run-from, first_in}
use Rattle.fol_split.proofs.Near.{cases_int, is_across-gives, is_across-from}
use Rattle.fol_split.proofs.Members.{all_among, among-append, among_front, among_back, sorted-front, sorted-back, sorted-across, sorted-join}

-- ---- which run a section is in
pub run_of : (runs : List Run) (s : SectionPos) → is_among (all_of runs) s ≡ true → (k : ℕ) × (k < length runs) × (is_among (sections_of (run_at runs k)) s ≡ true)
run_of [] s h = absurd (true≢false (sym h))
run_of (r ∷ runs) s h = elim (or_cases (is_among (sections_of r) s) (is_among (all_of runs) s) (sym (among-append (sections_of r) (all_of runs) s) ∙ h)) [
  | inl e ↦ (0, omega arith, e)
  | inr e ↦ let k = run_of runs s e in (suc k.0, omega (arith, k.1), k.2)
]

pub of_run : (runs : List Run) (k : ℕ) (s : SectionPos) → k < length runs → is_among (sections_of (run_at runs k)) s ≡ true → is_among (all_of runs) s ≡ true
of_run [] k s l h = absurd (omega arith)
of_run (r ∷ runs) zero s l h = among_front (sections_of r) (all_of runs) s h
of_run (r ∷ runs) (suc k) s l h = among_back (sections_of r) (all_of runs) s (of_run runs k s (omega arith) h)

-- ---- their order
pub run_rises : (runs : List Run) (k : ℕ) → k < length runs → IsStrictlySortedBy section_cmp (all_of runs) → IsStrictlySortedBy section_cmp (sections_of (run_at runs k))
run_rises [] k l h = absurd (omega arith)
run_rises (r ∷ runs) zero l h = sorted-front (sections_of r) (all_of runs) h
run_rises (r ∷ runs) (suc k) l h = run_rises runs k (omega arith) (sorted-back (sections_of r) (all_of runs) h)

pub run_before : (runs : List Run) (i j : ℕ) (s t : SectionPos) → IsStrictlySortedBy section_cmp (all_of runs) → i < j → j < length runs
    → is_among (sections_of (run_at runs i)) s ≡ true → is_among (sections_of (run_at runs j)) t ≡ true → section_cmp s t ≡ Less
run_before [] i j s t h l m p q = absurd (omega arith)
run_before (r ∷ runs) i zero s t h l m p q = absurd (omega arith)
run_before (r ∷ runs) zero (suc j) s t h l m p q = sorted-across (sections_of r) (all_of runs) s t h p (of_run runs j t (omega arith) q)
run_before (r ∷ runs) (suc i) (suc j) s t h l m p q = run_before runs i j s t (sorted-back (sections_of r) (all_of runs) h) (omega arith) (omega arith) p q

-- at another default
pub same_at : (runs : List Run) (k : ℕ) (d e : Run) → k < length runs → get_or runs k d ≡ get_or runs k e
same_at [] k d e l = absurd (omega arith)
same_at (r ∷ runs) zero d e l = refl
same_at (r ∷ runs) (suc k) d e l = same_at runs k d e (omega arith)

-- ---- the runs at some places
pub same_place : (k j : ℕ) → nat_eq k j ≡ true → k ≡ j
same_place k j h = grind (arith, nat_tests)

pub place_self : (k : ℕ) → nat_eq k k ≡ true
place_self k = grind (arith, nat_tests)

cmp_less : (i j : ℕ) → nat_cmp i j ≡ Less → i < j
cmp_less i j h = grind (arith, nat_tests)

place_all : (P : ℕ → Type 0) (ks : List ℕ) (j : ℕ) → AllByRecursion P ks → is_place ks j ≡ true → P j
place_all P [] j h e = absurd (true≢false (sym e))
place_all P (k ∷ ks) j h e = elim (or_cases (nat_eq j k) (is_place ks j) e) [
  | inl s ↦ let q = same_place j k s in rw q h.0
  | inr r ↦ place_all P ks j h.1 r
]

module _ (runs : List Run) where
  pub at_place : (ks : List ℕ) (s : SectionPos) → is_among (sections_at runs ks) s ≡ true → (k : ℕ) × (is_place ks k ≡ true) × (is_among (sections_of (run_at runs k)) s ≡ true)
  at_place [] s h = absurd (true≢false (sym h))
  at_place (k ∷ ks) s h = elim (or_cases (is_among (sections_of (run_at runs k)) s) (is_among (sections_at runs ks) s) (sym (among-append (sections_of (run_at runs k)) (sections_at runs ks) s) ∙ h)) [
    | inl e ↦ (k, or_left _ _ (place_self k), e)
    | inr e ↦ let j = at_place ks s e in (j.0, or_right (nat_eq j.0 k) _ j.1, j.2)
  ]

  pub of_place : (ks : List ℕ) (k : ℕ) (s : SectionPos) → is_place ks k ≡ true → is_among (sections_of (run_at runs k)) s ≡ true → is_among (sections_at runs ks) s ≡ true
  of_place [] k s h e = absurd (true≢false (sym h))
  of_place (j ∷ ks) k s h e = elim (or_cases (nat_eq k j) (is_place ks k) h) [
    | inl q ↦ let at = same_place k j q in among_front (sections_of (run_at runs j)) (sections_at runs ks) s (rw (← at) e)
    | inr q ↦ among_back (sections_of (run_at runs j)) (sections_at runs ks) s (of_place ks k s q e)
  ]

  pub places_rise : (ks : List ℕ) → IsStrictlySortedBy section_cmp (all_of runs) → IsStrictlySortedBy nat_cmp ks → ((k : ℕ) → is_place ks k ≡ true → k < length runs)
      → IsStrictlySortedBy section_cmp (sections_at runs ks)
  unfolding IsStrictlySortedBy
  places_rise [] h up within = tt
  places_rise (k ∷ ks) h up within = sorted-join (sections_of (run_at runs k)) (sections_at runs ks)
      (run_rises runs k (within k (or_left _ _ (place_self k))) h)
      (places_rise ks h up.1 (λ j e. within j (or_right (nat_eq j k) _ e)))
      (λ s t p q.
      let j = at_place ks t q in
      let less = place_all (λ i. nat_cmp k i ≡ Less) ks j.0 up.0 j.1 in
      run_before runs k j.0 s t h (cmp_less k j.0 less) (within j.0 (or_right (nat_eq j.0 k) _ j.1)) p j.2)

-- ---- all places
-- so many places in order need so many numbers
places_room : (ks : List ℕ) (b n : ℕ) → b ≤ n → IsStrictlySortedBy nat_cmp ks → ((k : ℕ) → is_place ks k ≡ true → (b ≤ k) × (k < n)) → b + length ks ≤ n
unfolding IsStrictlySortedBy
places_room [] b n l up within = omega (arith, l)
places_room (k ∷ ks) b n l up within =
    let here = within k (or_left _ _ (place_self k)) in
    let rest = places_room ks (k + 1) n (omega (arith, here.1)) up.1 (λ j h. (omega (arith, cmp_less k j (place_all (λ i. nat_cmp k i ≡ Less) ks j up.0 h)), (within j (or_right (nat_eq j k) _ h)).1)) in
    omega (arith, here.0, rest)

places_from : (runs : List Run) (ks : List ℕ) (b : ℕ) → b + length ks ≡ length runs → IsStrictlySortedBy nat_cmp ks → ((k : ℕ) → is_place ks k ≡ true → (b ≤ k) × (k < length runs)) → sections_at runs ks ≡ all_of (drop b runs)
unfolding IsStrictlySortedBy
places_from runs [] b n up within = ap all_of (sym (drop_all b runs (omega (arith, n))))
places_from runs (k ∷ ks) b n up within =
    let here = within k (or_left _ _ (place_self k)) in
    let behind : (j : ℕ) → is_place ks j ≡ true → (k + 1 ≤ j) × (j < length runs) = λ j h. (omega (arith, cmp_less k j (place_all (λ i. nat_cmp k i ≡ Less) ks j up.0 h)), (within j (or_right (nat_eq j k) _ h)).1) in
    let first : k ≡ b = omega (arith, n, here.0, places_room ks (k + 1) (length runs) (omega (arith, here.1)) up.1 behind) in
    let rest = places_from runs ks (b + 1) (omega (arith, n)) up.1 (λ j h. let p = behind j h in (omega (arith, p.0, first), p.1)) in
    ap (λ xs. sections_of (run_at runs k) ++ xs) rest ∙ ap (λ i. sections_of (run_at runs i) ++ all_of (drop (b + 1) runs)) first ∙ sym (at_drop_more all_of runs b no_run (omega (arith, n)))

-- as many places in order as there are runs are the places of all runs
pub places-all : (runs : List Run) (ks : List ℕ) → length ks ≡ length runs → IsStrictlySortedBy nat_cmp ks → ((k : ℕ) → is_place ks k ≡ true → k < length runs) → sections_at runs ks ≡ all_of runs
places-all runs ks n up within = places_from runs ks 0 (omega (arith, n)) up (λ k h. (omega arith, within k h))

-- the place that stands at an index
pub place_at : (ks : List ℕ) (i d : ℕ) → i < length ks → is_place ks (get_or ks i d) ≡ true
place_at ks i d l = list_any_at (nat_eq (get_or ks i d)) ks i d l (place_self (get_or ks i d))

-- ---- the sections of the runs at some places, one run after another
module _ (runs : List Run) (ks : List ℕ) (i : ℕ) (found all : List SectionPos) (run : Run) (l : i < length ks) (is : run ≡ run_at runs (get_or ks i 0)) (so_far : found ++ sections_at runs (drop i ks) ≡ all) where
  next_run : sections_at runs (drop i ks) ≡ sections_of run ++ sections_at runs (drop (i + 1) ks)
  next_run = at_drop_more (sections_at runs) ks i 0 l ∙ ap (λ r. sections_of r ++ sections_at runs (drop (i + 1) ks)) (sym is)

  pub appends : (found ++ sections_of run) ++ sections_at runs (drop (i + 1) ks) ≡ all
  appends = append_assoc found (sections_of run) (sections_at runs (drop (i + 1) ks)) ∙ ap (λ xs. found ++ xs) (sym next_run) ∙ so_far

  pub fits : length found + length (sections_of run) ≤ length all
  fits = omega (arith, ap length appends, length-append (found ++ sections_of run) (sections_at runs (drop (i + 1) ks)), length-append found (sections_of run))

pub solid_at : (runs : List Run) (k : ℕ) (run : Run) → AreRuns runs → k < length runs → run ≡ get_or runs k run → run.from <ℤ run.to
solid_at runs k run sound l e = let P : Run → Type 0 = λ r. r.from <ℤ r.to in subst P (sym e) (sound.solid k run l)

pub run_near : (runs : List Run) (k : ℕ) (run : Run) → AreRuns runs → k < length runs → run ≡ get_or runs k run → (nat_abs run.z ≤ 1000009) × (nat_abs run.from ≤ 1000009) × (nat_abs run.to ≤ 1000009)
run_near runs k run sound l e =
    let here = same_at runs k run no_run l in
    let solid = solid_at runs k run sound l e in
    let end : SectionPos = record { x = run.to -ℤ pos 1; z = run.z } in
    let a = all_among (λ (s : SectionPos). IsTrue (is_section s)) (all_of runs) (first_of run) sound.in_range (of_run runs k (first_of run) l (ap (λ r. is_among (sections_of r) (first_of run)) (sym (e ∙ here)) ∙ first_in run solid)) in
    let b = all_among (λ (s : SectionPos). IsTrue (is_section s)) (all_of runs) end sound.in_range
    (of_run runs k end l (ap (λ r. is_among (sections_of r) end) (sym (e ∙ here)) ∙ in_run-from run solid end refl (omega (arith, ints, solid)) (omega (arith, ints)))) in
    let p = section_near (first_of run) a in
    let q = section_near end b in
    (omega (arith, p.1), omega (arith, p.0), omega (arith, ints, q.0))

-- ---- numbers from one on
pub between-none : (first j : ℕ) → (nat_le first j && nat_lt j first) ≡ false
between-none first j = elim (cases_Bool (nat_le first j && nat_lt j first)) [
  | inl e ↦ let p = and_parts (nat_le first j) (nat_lt j first) e in absurd (omega (arith, leb-true _ _ p.0, ltb-true _ _ p.1))
  | inr e ↦ e
]

pub between-more : (first k j : ℕ) → first ≤ k → (nat_le first j && nat_lt j (k + 1)) ≡ ((nat_le first j && nat_lt j k) || nat_eq k j)
between-more first k j l = both_ways _ _
    (λ h. let p = and_parts (nat_le first j) (nat_lt j (k + 1)) h in
    let m = ltb-true j (k + 1) p.1 in elim (cases_eq k j) [
      | inl e ↦ or_right (nat_le first j && nat_lt j k) _ (ap (nat_eq k) (sym e) ∙ place_self k)
      | inr n ↦ or_left (nat_le first j && nat_lt j k) _ (and_from _ _ p.0 (lt-ltb j k (omega (arith, n, m))))
    ])
    (λ h. elim (or_cases (nat_le first j && nat_lt j k) (nat_eq k j) h) [
      | inl e ↦ let p = and_parts (nat_le first j) (nat_lt j k) e in and_from _ _ p.0 (lt-ltb j (k + 1) (omega (arith, ltb-true j k p.1)))
      | inr e ↦ let q = same_place k j e in and_from _ _ (le-leb first j (omega (arith, q))) (lt-ltb j (k + 1) (omega (arith, q)))
    ])

-- ---- tests on a run
pub ends-gives : (z x : ℤ) (run : Run) → ends_before z x run ≡ true → (run.z <ℤ z) ⊎ ((run.z ≡ z) × (run.to ≤ℤ x))
unfolding ends_before
ends-gives z x run h = elim (or_cases (int_lt run.z z) (int_eq run.z z && int_le run.to x) h) [
  | inl e ↦ inl (grind (arith, ints))
  | inr e ↦ let p = and_parts (int_eq run.z z) (int_le run.to x) e in inr ((Decides-int_eq run.z z).0 p.0, grind (arith, ints))
]

pub ends-row : (z x : ℤ) (run : Run) → run.z <ℤ z → ends_before z x run ≡ true
unfolding ends_before
ends-row z x run l = or_left (int_lt run.z z) _ (grind (arith, ints))

pub ends-in_row : (z x : ℤ) (run : Run) → run.z ≡ z → run.to ≤ℤ x → ends_before z x run ≡ true
unfolding ends_before
ends-in_row z x run e l = or_right (int_lt run.z z) _ (and_from (int_eq run.z z) _ ((Decides-int_eq run.z z).1 e) (grind (arith, ints)))

ends-not : (z x : ℤ) (run : Run) → ends_before z x run ≡ false → (z ≤ℤ run.z) × (run.z ≡ z → x <ℤ run.to)
ends-not z x run h = (
  elim (cases_int z run.z) [ inl l ↦ l | inr l ↦ absurd (true≢false (sym (ends-row z x run l) ∙ h)) ],
  (λ e. elim (cases_int run.to x) [ inl l ↦ absurd (true≢false (sym (ends-in_row z x run e l) ∙ h)) | inr l ↦ l ]),
)

begins-gives : (z x : ℤ) (run : Run) → begins_before z x run ≡ true → (run.z ≡ z) × (run.from <ℤ x)
unfolding begins_before
begins-gives z x run h = let p = and_parts (int_eq run.z z) (int_lt run.from x) h in ((Decides-int_eq run.z z).0 p.0, grind (arith, ints))

begins-from : (z x : ℤ) (run : Run) → run.z ≡ z → run.from <ℤ x → begins_before z x run ≡ true
unfolding begins_before
begins-from z x run e l = and_from (int_eq run.z z) _ ((Decides-int_eq run.z z).1 e) (grind (arith, ints))

met-gives : (z low high : ℤ) (run : Run) → is_met z low high run ≡ true → (z ≡ run.z) × (low <ℤ run.to) × (run.from <ℤ high)
met-gives z low high run h = let p = and_parts (int_eq z run.z) (is_across low high run) h in let m = is_across-gives low high run p.1 in ((Decides-int_eq z run.z).0 p.0, m.0, m.1)

met-from : (z low high : ℤ) (run : Run) → z ≡ run.z → low <ℤ run.to → run.from <ℤ high → is_met z low high run ≡ true
met-from z low high run e l m = and_from (int_eq z run.z) _ ((Decides-int_eq z run.z).1 e) (is_across-from low high run l m)

-- ---- the order of the runs by their numbers
module _ (runs : List Run) (sound : AreRuns runs) where
  pub apart : (i j : ℕ) → i < j → j < length runs → ((run_at runs i).z <ℤ (run_at runs j).z) ⊎ (((run_at runs i).z ≡ (run_at runs j).z) × ((run_at runs i).to ≤ℤ (run_at runs j).from))
  apart i j l m =
      let a = run_at runs i in
      let b = run_at runs j in
      let p = sound.solid i no_run (omega arith) in
      let q = sound.solid j no_run m in
      let end : SectionPos = record { x = a.to -ℤ pos 1; z = a.z } in
      let less = run_before runs i j end (first_of b) sound.in_order l m
      (in_run-from a p end refl (omega (arith, ints, p)) (omega (arith, ints))) (first_in b q) in
      elim (less-gives end (first_of b) less) [
        | inl e ↦ inl e
        | inr e ↦ inr (e.0, omega (arith, ints, e.1))
      ]

  -- those that end before a place in a row are the first ones
  pub ends_parted : (z x : ℤ) (i j : ℕ) → i ≤ j → j < length runs → ends_before z x (run_at runs j) ≡ true → ends_before z x (run_at runs i) ≡ true
  unfolding ends_before
  ends_parted z x i j l m h = elim (cases_eq i j) [
    | inl e ↦ ap (λ k. ends_before z x (run_at runs k)) e ∙ h
    | inr n ↦
        let a = run_at runs i in
        let b = run_at runs j in
        let q = sound.solid j no_run m in
        let ends = ends-gives z x b h in
        elim (apart i j (omega (arith, n)) m) [
          | inl r ↦ elim ends [
            | inl s ↦ ends-row z x a (omega (arith, ints, r, s))
            | inr s ↦ ends-row z x a (omega (arith, ints, r, s.0))
          ]
          | inr r ↦ elim ends [
            | inl s ↦ ends-row z x a (omega (arith, ints, r.0, s))
            | inr s ↦ ends-in_row z x a (r.0 ∙ s.0) (omega (arith, ints, r.1, s.1, q))
          ]
        ]
  ]

  pub ends_first : (z x : ℤ) → IsPartitionedBy (ends_before z x) runs
  ends_first z x i j d l m h =
      let a = same_at runs i d no_run (omega arith) in
      let b = same_at runs j d no_run m in
      ap (ends_before z x) a ∙ ends_parted z x i j l m (sym (ap (ends_before z x) b) ∙ h)

  -- what is taken in a row, between the first that does not end before it and the last that begins before its end
  module _ (z low high : ℤ) (first next : ℕ) (before : (k : ℕ) → k < first → ends_before z low (run_at runs k) ≡ true)
      (after : (k : ℕ) → first ≤ k → k < length runs → ends_before z low (run_at runs k) ≡ false)
      (begun : (k : ℕ) → first ≤ k → k < next → begins_before z high (run_at runs k) ≡ true)
      (done : (nat_lt next (length runs) && begins_before z high (run_at runs next)) ≡ false) (rising : first ≤ next) where
    not_behind : (j : ℕ) → next ≤ j → j < length runs → is_met z low high (run_at runs j) ≡ true → ⊥
    not_behind j l m h =
        let b = run_at runs j in
        let a = run_at runs next in
        let p = sound.solid next no_run (omega arith) in
        let met = met-gives z low high b h in
        let stays = ends-not z low a (after next rising (omega arith)) in
        let there : nat_lt next (length runs) ≡ true = lt-ltb _ _ (omega arith) in
        let begins : begins_before z high a ≡ true = elim (cases_eq next j) [
          | inl e ↦ begins-from z high a (ap (λ k. (run_at runs k).z) e ∙ sym met.0) (omega (arith, ints, ap (λ k. (run_at runs k).from) e, met.2))
          | inr n ↦ elim (apart next j (omega (arith, n)) m) [
            | inl r ↦ absurd (omega (arith, ints, r, met.0, stays.0))
            | inr r ↦ begins-from z high a (r.0 ∙ sym met.0) (omega (arith, ints, r.1, met.2, p))
          ]
        ] in
        true≢false (sym (and_from _ _ there begins) ∙ done)

    pub row_is : (j : ℕ) → j < length runs → is_met z low high (run_at runs j) ≡ (nat_le first j && nat_lt j next)
    row_is j m = both_ways _ _
        (λ h.
        let met = met-gives z low high (run_at runs j) h in
        let l : first ≤ j = elim (cases_lt j first) [
          | inl l ↦ elim (ends-gives z low (run_at runs j) (before j l)) [
            | inl r ↦ absurd (omega (arith, ints, r, met.0))
            | inr r ↦ absurd (omega (arith, ints, r.1, met.1))
          ]
          | inr l ↦ l
        ] in
        let n : j < next = elim (cases_lt j next) [ inl n ↦ n | inr n ↦ absurd (not_behind j n m h) ] in
        and_from _ _ (le-leb _ _ l) (lt-ltb _ _ n))
        (λ h.
        let p = and_parts (nat_le first j) (nat_lt j next) h in
        let l = leb-true _ _ p.0 in
        let begins = begins-gives z high (run_at runs j) (begun j l (ltb-true _ _ p.1)) in
        let stays = ends-not z low (run_at runs j) (after j l m) in
        met-from z low high (run_at runs j) (sym begins.0) (stays.1 begins.0) begins.1)
