-- Sections side by side in one page.
use Rattle.std.proofs.Common.{◌≡◌, ◌≢◌, ℕ, zero, suc, ◌+◌, ◌<◌, ◌≤◌, refl, sym, ◌∙◌, ap, arith, Bool, true, false, cond, inl, inr, ◌||◌, ◌∷◌, [], ◌++◌, List, length}
use Rattle.std.specs.Prelude.{ℤ, pos, ◌+ℤ◌, nat_abs, nat_lt, Option, Some, None, is_some, slice_index_or, slice_set}
use Rattle.std.specs.Int.{int_rem_euclid}
use Rattle.std.specs.List.{count_by, filter}
use Rattle.std.specs.Option.{option_and_then, unwrap_or}
use Rattle.std.proofs.lemmas.Bool.{cases_Bool, cases_eq, cases_lt, or_right, true≢false}
use Rattle.std.proofs.lemmas.List.{get_or-set_same, get_or-set_other}
use Rattle.std.proofs.lemmas.List.Sums.{length-filter}
use borrow.Author.Differences.{ints}
use Rattle.fol_model.specs.declared.places.SectionPos.{SectionPos}
use Rattle.fol_model.specs.Geometry.{same_section}
use Rattle.fol_laws.proofs.SamePlaces.{same_section-true, same_section-self}
use Rattle.fol_pages.proofs.PagePlaces.{place_few, place_tells, same_place, same_self}
use Rattle.fol_pages.proofs.PageRuns.{run_end, run_page}
use Rattle.fol_sections.specs.Pages.{IsOnPage, KeepsOthers, chunks_at, chunks_on, counts_at, counts_on, has_page, is_here, near_at, near_on, no_counts, page_at, page_of, place_of}
use Rattle.fol_sections.specs.Places.{is_same}
use Rattle.fol_sections.specs.Rows.{row_of, section_at}
use Rattle.fol_sections.specs.Turns.{fall, rise}
use Rattle.fol_sections.specs.declared.pages.Counts.{Counts}
use Rattle.fol_sections.specs.declared.pages.Page.{Page}
use Rattle.fol_sections.specs.declared.turns.Turn.{Turn}
use Rattle.fol_sections.proofs.FillSteps.{none_comes, or_none}
use Rattle.fol_sections.proofs.PageSteps.{here-page, none_there}
use Rattle.fol_sections.proofs.Rows.{count_more, filter_no, filter_yes, row-none, row_part}
use Rattle.fol_sections.proofs.TurnSteps.{fall_none, rise_none}

-- a section of the run has a place in the page
pub run_few : (s : SectionPos) (len : ℕ) → nat_abs (int_rem_euclid s.x (pos 32)) + len ≤ 32 → (i : ℕ) → i < len → place_of s + i < 32
run_few s len run i l = omega (arith, run_end s len run, l)

-- tests that agree on a row keep the same of it
pub filter_row : (p q : SectionPos → Bool) (x z : ℤ) (n : ℕ) → ((i : ℕ) → i < n → p (section_at (x +ℤ pos i) z) ≡ q (section_at (x +ℤ pos i) z))
    → filter p (row_of section_at x z n) ≡ filter q (row_of section_at x z n)
filter_row p q x z zero h = ap (filter p) (row-none section_at x z) ∙ sym (ap (filter q) (row-none section_at x z))
filter_row p q x z (suc n) h =
    let e : suc n ≡ n + 1 = omega arith in
    let k = filter_row p q x z n (λ i l. h i (omega arith)) in
    ap (λ m. filter p (row_of section_at x z m)) e
    ∙ elim (cases_Bool (p (section_at (x +ℤ pos n) z))) [
      | inl y ↦ filter_yes section_at p x z n y ∙ ap (λ xs. xs ++ section_at (x +ℤ pos n) z ∷ []) k ∙ sym (filter_yes section_at q x z n (sym (h n (omega arith)) ∙ y))
      | inr y ↦ filter_no section_at p x z n y ∙ k ∙ sym (filter_no section_at q x z n (sym (h n (omega arith)) ∙ y))
    ]
    ∙ ap (λ m. filter q (row_of section_at x z m)) (sym e)

-- a section that is none of a row
pub count_none : (p : SectionPos → Bool) (x z : ℤ) (n : ℕ) → ((i : ℕ) → i < n → p (section_at (x +ℤ pos i) z) ≡ false) → count_by p (row_of section_at x z n) ≡ 0
count_none p x z zero h = ap (count_by p) (row-none section_at x z)
count_none p x z (suc n) h =
    let e : suc n ≡ n + 1 = omega arith in
    let k = count_none p x z n (λ i l. h i (omega arith)) in
    ap (λ m. count_by p (row_of section_at x z m)) e ∙ count_more section_at p x z n ∙ rw (k, h n (omega arith)) refl

-- a test that all sections of a row pass
pub count_whole : (p : SectionPos → Bool) (x z : ℤ) (n : ℕ) → ((i : ℕ) → i < n → p (section_at (x +ℤ pos i) z) ≡ true) → count_by p (row_of section_at x z n) ≡ n
count_whole p x z zero h = ap (count_by p) (row-none section_at x z)
count_whole p x z (suc n) h =
    let e : suc n ≡ n + 1 = omega arith in
    let k = count_whole p x z n (λ i l. h i (omega arith)) in
    ap (λ m. count_by p (row_of section_at x z m)) e ∙ count_more section_at p x z n ∙ rw (k, h n (omega arith)) (sym e)

-- tests that agree on a row count the same of it
pub count_like : (p q : SectionPos → Bool) (x z : ℤ) (n : ℕ) → ((i : ℕ) → i < n → p (section_at (x +ℤ pos i) z) ≡ q (section_at (x +ℤ pos i) z)) → count_by p (row_of section_at x z n) ≡ count_by q (row_of section_at x z n)
count_like p q x z n h = sym (length-filter p (row_of section_at x z n)) ∙ ap length (filter_row p q x z n h) ∙ length-filter q (row_of section_at x z n)

-- a section of a row is none of those before it
pub row_before : (x z : ℤ) (i : ℕ) → count_by (same_section (section_at (x +ℤ pos i) z)) (row_of section_at x z i) ≡ 0
row_before x z i = count_none (same_section (section_at (x +ℤ pos i) z)) x z i (λ j l. elim (cases_Bool (same_section (section_at (x +ℤ pos i) z) (section_at (x +ℤ pos j) z))) [
  | inr e ↦ e
  | inl e ↦
      let k : x +ℤ pos i ≡ x +ℤ pos j = ap (λ (s : SectionPos). s.x) (same_section-true (section_at (x +ℤ pos i) z) (section_at (x +ℤ pos j) z) e) in
      absurd (omega (arith, ints, k))
])

-- and one of the row
pub row_has : (x z : ℤ) (n i : ℕ) → i < n → 0 < count_by (same_section (section_at (x +ℤ pos i) z)) (row_of section_at x z n)
row_has x z n i l =
    let place : SectionPos = section_at (x +ℤ pos i) z in
    let own = count_more section_at (same_section place) x z i ∙ ap (λ b. count_by (same_section place) (row_of section_at x z i) + cond b 1 0) (same_section-self place) in
    omega (arith, own, row_part section_at (same_section place) x z (i + 1) n (omega arith))

-- the first section of a row is one of it
pub row_first : (s : SectionPos) (n : ℕ) → 0 < n → 0 < count_by (same_section s) (row_of section_at s.x s.z n)
row_first s n some = let k : s.x +ℤ pos 0 ≡ s.x = omega (arith, ints) in rw k at (row_has s.x s.z n 0 some)

-- what is kept of a present section
pub some_is : (o : Option Counts) → is_some o ≡ true → o ≡ Some (unwrap_or o no_counts)
some_is (Some c) h = refl
some_is None h = absurd (true≢false (sym h))

-- ---- the numbers of one section of a page changed
module _ (before : Page) (whole : 32 ≤ length before.sections) (s at : SectionPos) (page : IsOnPage s at) (place : ℕ) (is : place ≡ place_of at) (was : Option Counts) (now : Counts) (had : counts_on before at ≡ was) where
  abbrev after : Page
  after = record { sections = slice_set before.sections place (Some now) }

  other : (q : SectionPos) → place_of q ≢ place → counts_on after q ≡ counts_on before q
  other q d = get_or-set_other before.sections place (place_of q) (Some now) None d

  same : (q : SectionPos) → place_of q ≡ place → counts_on after q ≡ Some now
  same q e = ap (λ n. slice_index_or (slice_set before.sections place (Some now)) n None) e ∙ get_or-set_same before.sections place (Some now) None (let f = place_few at in omega (arith, f, is))

  same_had : (q : SectionPos) → place_of q ≡ place → counts_on before q ≡ was
  same_had q e = ap (λ n. slice_index_or before.sections n None) (e ∙ is) ∙ had

  same_is : (q : SectionPos) → IsOnPage s q → place_of q ≡ place → same_section q at ≡ true
  same_is q on e = ap (same_section q) (place_tells at q (page.0 ∙ sym on.0) (page.1 ∙ sym on.1) (e ∙ is)) ∙ same_section-self q

  other_is : (q : SectionPos) → place_of q ≢ place → same_section q at ≡ false
  other_is q d = elim (cases_Bool (same_section q at)) [
    | inl x ↦ let k = same_section-true q at x in absurd (d (ap place_of k ∙ sym is))
    | inr x ↦ x
  ]

  pub step_chunks : now.loaded ≡ (unwrap_or was no_counts).loaded → (q : SectionPos) → chunks_on after q ≡ chunks_on before q
  step_chunks loaded q = elim (cases_eq (place_of q) place) [
    | inl e ↦ ap (λ o. (unwrap_or o no_counts).loaded) (same q e) ∙ loaded ∙ sym (ap (λ o. (unwrap_or o no_counts).loaded) (same_had q e))
    | inr d ↦ ap (λ o. (unwrap_or o no_counts).loaded) (other q d)
  ]

  pub step_keeps : is_some was ≡ true → now.loaded ≡ (unwrap_or was no_counts).loaded → KeepsOthers before after
  step_keeps there loaded = record {
    here = λ q. elim (cases_eq (place_of q) place) [
      | inl e ↦ ap is_some (same q e) ∙ sym (ap is_some (same_had q e) ∙ there)
      | inr d ↦ ap is_some (other q d)
    ];
    chunks = step_chunks loaded;
  }

  pub step_here : (q : SectionPos) → IsOnPage s q → is_some (counts_on after q) ≡ (is_some (counts_on before q) || same_section q at)
  step_here q on = elim (cases_eq (place_of q) place) [
    | inl e ↦ ap is_some (same q e) ∙ sym (or_right (is_some (counts_on before q)) (same_section q at) (same_is q on e))
    | inr d ↦ ap is_some (other q d) ∙ sym (ap (λ b. is_some (counts_on before q) || b) (other_is q d) ∙ or_none (is_some (counts_on before q)))
  ]

  pub step_turns : (turn : Turn) → now.near + fall turn 1 ≡ (unwrap_or was no_counts).near + rise turn 1 → (q : SectionPos) → IsOnPage s q
      → near_on after q + fall turn (cond (same_section q at) 1 0) ≡ near_on before q + rise turn (cond (same_section q at) 1 0)
  step_turns turn turned q on = elim (cases_eq (place_of q) place) [
    | inl e ↦
        let y = same_is q on e in
        let a : near_on after q ≡ now.near = ap (λ o. (unwrap_or o no_counts).near) (same q e) in
        let b : near_on before q ≡ (unwrap_or was no_counts).near = ap (λ o. (unwrap_or o no_counts).near) (same_had q e) in
        rw (y, a, b) turned
    | inr d ↦
        let y = other_is q d in
        let a : near_on after q ≡ near_on before q = ap (λ o. (unwrap_or o no_counts).near) (other q d) in
        rw (y, a) (omega (arith, rise_none turn, fall_none turn))
  ]

pub keeps_self : (p : Page) → KeepsOthers p p
keeps_self p = record { here = λ q. refl; chunks = λ q. refl }

pub keeps_then : (a b c : Page) → KeepsOthers a b → KeepsOthers b c → KeepsOthers a c
keeps_then a b c x y = record { here = λ q. y.here q ∙ x.here q; chunks = λ q. y.chunks q ∙ x.chunks q }

-- a section of another page is none of the run
pub count_off : (s : SectionPos) (len : ℕ) → nat_abs (int_rem_euclid s.x (pos 32)) + len ≤ 32 → (q : SectionPos) → (IsOnPage s q → ⊥) → count_by (same_section q) (row_of section_at s.x s.z len) ≡ 0
count_off s len run q off = count_none (same_section q) s.x s.z len (λ i l. elim (cases_Bool (same_section q (section_at (s.x +ℤ pos i) s.z))) [
  | inr e ↦ e
  | inl e ↦
      let k : q ≡ section_at (s.x +ℤ pos i) s.z = same_section-true q (section_at (s.x +ℤ pos i) s.z) e in
      absurd (off (ap (λ (x : SectionPos). page_of x.x) k ∙ run_page s len run i l, ap (λ (x : SectionPos). x.z) k))
])

-- where the page is not there, no section of the run is present
pub none_run : (entries : List ((ℤ × ℤ) × Page)) (s : SectionPos) (len : ℕ) → nat_abs (int_rem_euclid s.x (pos 32)) + len ≤ 32 → page_at entries (page_of s.x) s.z ≡ None
    → (q : SectionPos) → (0 < count_by (same_section q) (row_of section_at s.x s.z len) → is_here entries q ≡ true) → count_by (same_section q) (row_of section_at s.x s.z len) ≡ 0
unfolding has_page
none_run entries s len run none q here = elim (cases_Bool (is_same (page_of s.x) s.z (page_of q.x) q.z)) [
  | inr e ↦ count_off s len run q (λ on. true≢false (sym (same_self (page_of q.x) q.z) ∙ (λ i. is_same (on.0 i) (on.1 i) (page_of q.x) q.z) ∙ e))
  | inl e ↦
      let k = same_place (page_of s.x) s.z (page_of q.x) q.z e in
      elim (cases_lt 0 (count_by (same_section q) (row_of section_at s.x s.z len))) [
        | inl p ↦ absurd (true≢false (sym (here-page entries q (here p)) ∙ (λ i. has_page entries (sym k.0 i) (sym k.1 i)) ∙ ap is_some none))
        | inr p ↦ omega arith
      ]
]

-- ---- whether a section lies on the page of another one
pub on_page : (s q : SectionPos) → is_same (page_of s.x) s.z (page_of q.x) q.z ≡ true → IsOnPage s q
on_page s q e = let k = same_place (page_of s.x) s.z (page_of q.x) q.z e in (sym k.0, sym k.1)

pub off_page : (s q : SectionPos) → is_same (page_of s.x) s.z (page_of q.x) q.z ≡ false → IsOnPage s q → ⊥
off_page s q e on = true≢false (sym (same_self (page_of q.x) q.z) ∙ (λ i. is_same (on.0 i) (on.1 i) (page_of q.x) q.z) ∙ e)

-- a section of the run does
pub run_on : (s : SectionPos) (len : ℕ) → nat_abs (int_rem_euclid s.x (pos 32)) + len ≤ 32 → (q : SectionPos) → 0 < count_by (same_section q) (row_of section_at s.x s.z len) → IsOnPage s q
run_on s len run q some = elim (cases_Bool (is_same (page_of s.x) s.z (page_of q.x) q.z)) [
  | inl e ↦ on_page s q e
  | inr e ↦ let n = count_off s len run q (off_page s q e) in absurd (omega arith)
]

-- what is kept of a section in a page that is there
pub kept_on : (entries : List ((ℤ × ℤ) × Page)) (s : SectionPos) (p : Page) → page_at entries (page_of s.x) s.z ≡ Some p → (q : SectionPos) → option_and_then (λ p. counts_on p q) (page_at entries (page_of s.x) s.z) ≡ counts_on p q
kept_on entries s p was q = ap (option_and_then (λ p. counts_on p q)) was

-- and in one that is not there, as in one with nobody
pub kept_nowhere : (entries : List ((ℤ × ℤ) × Page)) (s : SectionPos) (p : Page) → page_at entries (page_of s.x) s.z ≡ None → ((q : SectionPos) → is_some (counts_on p q) ≡ false) → (q : SectionPos) → option_and_then (λ p. counts_on p q) (page_at entries (page_of s.x) s.z) ≡ counts_on p q
kept_nowhere entries s p none blank q = ap (option_and_then (λ p. counts_on p q)) none ∙ sym (none_there (counts_on p q) (blank q))

-- ---- what is kept of the sections of one page
module _ (before : List ((ℤ × ℤ) × Page)) (s : SectionPos) (old : Page) (was : (q : SectionPos) → option_and_then (λ p. counts_on p q) (page_at before (page_of s.x) s.z) ≡ counts_on old q) where
  pub before_on : (q : SectionPos) → IsOnPage s q → counts_at before q ≡ counts_on old q
  unfolding counts_at
  before_on q on = (λ i. option_and_then (λ p. counts_on p q) (page_at before (on.0 i) (on.1 i))) ∙ was q

  pub before_near : (q : SectionPos) → IsOnPage s q → near_at before q ≡ near_on old q
  unfolding near_at
  before_near q on = ap (λ o. (unwrap_or o no_counts).near) (before_on q on)

  -- tests of what is kept that agree on the page keep the same of a run
  pub before_filter : (test : Option Counts → Bool) (len : ℕ) → nat_abs (int_rem_euclid s.x (pos 32)) + len ≤ 32
      → filter (λ q. test (counts_on old q)) (row_of section_at s.x s.z len) ≡ filter (λ q. test (counts_at before q)) (row_of section_at s.x s.z len)
  before_filter test len run = filter_row (λ q. test (counts_on old q)) (λ q. test (counts_at before q)) s.x s.z len (λ i l. ap test (sym (before_on (section_at (s.x +ℤ pos i) s.z) (run_page s len run i l, refl))))

  -- ---- and after it was written
  module _ (after : List ((ℤ × ℤ) × Page)) (new : Page) (step : (a b : ℤ) → page_at after a b ≡ cond (is_same (page_of s.x) s.z a b) (Some new) (page_at before a b)) where
    pub after_on : (q : SectionPos) → IsOnPage s q → counts_at after q ≡ counts_on new q
    unfolding counts_at
    after_on q on =
        let e : is_same (page_of s.x) s.z (page_of s.x) s.z ≡ true = same_self (page_of s.x) s.z in
        (λ i. option_and_then (λ p. counts_on p q) (page_at after (on.0 i) (on.1 i)))
        ∙ ap (option_and_then (λ p. counts_on p q)) (step (page_of s.x) s.z ∙ ap (λ b. cond b (Some new) (page_at before (page_of s.x) s.z)) e)

    pub after_off : (q : SectionPos) → is_same (page_of s.x) s.z (page_of q.x) q.z ≡ false → counts_at after q ≡ counts_at before q
    unfolding counts_at
    after_off q e = ap (option_and_then (λ p. counts_on p q)) (step (page_of q.x) q.z ∙ ap (λ b. cond b (Some new) (page_at before (page_of q.x) q.z)) e)

    pub run_here : ((q : SectionPos) → is_some (counts_on new q) ≡ is_some (counts_on old q)) → (q : SectionPos) → is_here after q ≡ is_here before q
    unfolding is_here
    run_here here q = elim (cases_Bool (is_same (page_of s.x) s.z (page_of q.x) q.z)) [
      | inl e ↦ ap is_some (after_on q (on_page s q e)) ∙ here q ∙ sym (ap is_some (before_on q (on_page s q e)))
      | inr e ↦ ap is_some (after_off q e)
    ]

    pub run_chunks : ((q : SectionPos) → chunks_on new q ≡ chunks_on old q) → (q : SectionPos) → chunks_at after q ≡ chunks_at before q
    unfolding chunks_at
    run_chunks chunks q = elim (cases_Bool (is_same (page_of s.x) s.z (page_of q.x) q.z)) [
      | inl e ↦ ap (λ o. (unwrap_or o no_counts).loaded) (after_on q (on_page s q e)) ∙ chunks q ∙ sym (ap (λ o. (unwrap_or o no_counts).loaded) (before_on q (on_page s q e)))
      | inr e ↦ ap (λ o. (unwrap_or o no_counts).loaded) (after_off q e)
    ]

    after_near : (q : SectionPos) → IsOnPage s q → near_at after q ≡ near_on new q
    unfolding near_at
    after_near q on = ap (λ o. (unwrap_or o no_counts).near) (after_on q on)

    same_near : (q : SectionPos) → is_same (page_of s.x) s.z (page_of q.x) q.z ≡ false → near_at after q ≡ near_at before q
    unfolding near_at
    same_near q e = ap (λ o. (unwrap_or o no_counts).near) (after_off q e)

    module _ (len : ℕ) (run : nat_abs (int_rem_euclid s.x (pos 32)) + len ≤ 32) where
      pub run_near : (turn : Turn)
          → ((q : SectionPos) → IsOnPage s q → near_on new q + fall turn (count_by (same_section q) (row_of section_at s.x s.z len)) ≡ near_on old q + rise turn (count_by (same_section q) (row_of section_at s.x s.z len)))
          → (q : SectionPos) → near_at after q + fall turn (count_by (same_section q) (row_of section_at s.x s.z len)) ≡ near_at before q + rise turn (count_by (same_section q) (row_of section_at s.x s.z len))
      run_near turn near q = elim (cases_Bool (is_same (page_of s.x) s.z (page_of q.x) q.z)) [
        | inl e ↦ let on = on_page s q e in rw (after_near q on, before_near q on) (near q on)
        | inr e ↦
            let n = count_off s len run q (off_page s q e) in
            rw (n, same_near q e) (omega (arith, rise_none turn, fall_none turn))
      ]

      -- where all sections of the run are there since
      pub run_comes : ((q : SectionPos) → IsOnPage s q → is_some (counts_on new q) ≡ (is_some (counts_on old q) || nat_lt 0 (count_by (same_section q) (row_of section_at s.x s.z len))))
          → (q : SectionPos) → is_here after q ≡ (is_here before q || nat_lt 0 (count_by (same_section q) (row_of section_at s.x s.z len)))
      unfolding is_here
      run_comes here q = elim (cases_Bool (is_same (page_of s.x) s.z (page_of q.x) q.z)) [
        | inl e ↦
            let on = on_page s q e in
            ap is_some (after_on q on) ∙ here q on ∙ ap (λ o. is_some o || nat_lt 0 (count_by (same_section q) (row_of section_at s.x s.z len))) (sym (before_on q on))
        | inr e ↦
            let n = count_off s len run q (off_page s q e) in
            ap is_some (after_off q e) ∙ sym (none_comes (is_some (counts_at before q)) (count_by (same_section q) (row_of section_at s.x s.z len)) n)
      ]
