-- Dead sections that leave a page, and the pages of a list.
use Rattle.std.proofs.Common.{◌≡◌, ◌≢◌, ℕ, ◌+◌, ◌<◌, ◌≤◌, refl, sym, ◌∙◌, ap, arith, Bool, true, false, cond, ◌&&◌, ◌||◌, inl, inr, List, [], ◌∷◌, ◌++◌, length, take, get_or}
use Rattle.std.specs.Prelude.{ℤ, Option, Some, None, nat_eq, slice_index_or, slice_set}
use Rattle.std.specs.List.{All, count_by}
use Rattle.std.specs.Option.{option_and_then, unwrap_or}
use Rattle.std.proofs.lemmas.Bool.{cases_Bool, cases_eq, true≢false, eq-eqb, eqb-true}
use Rattle.std.proofs.lemmas.List.{get_or-set_same, get_or-set_other}
use Rattle.std.proofs.lemmas.List.Elements.{All-weaker}
use Rattle.std.proofs.lemmas.List.Folds.{list_any-append, list_any_more}
use Rattle.std.proofs.lemmas.List.Sums.{length-filter}
use Rattle.fol_model.specs.declared.places.SectionPos.{SectionPos}
use Rattle.fol_model.specs.Geometry.{is_among, same_section}
use Rattle.fol_laws.proofs.Coordinates.{count_by-append}
use Rattle.fol_laws.proofs.ListCounts.{count_by-cons}
use Rattle.fol_laws.proofs.SamePlaces.{same_section-true, same_section-self}
use Rattle.fol_pages.proofs.PagePlaces.{place_few, place_tells}
use Rattle.fol_sections.specs.Pages.{IsOnPage, counts_at, counts_on, near_at, near_on, no_counts, page_at, page_of, place_of}
use Rattle.fol_sections.specs.Places.{is_same}
use Rattle.fol_sections.specs.declared.pages.Counts.{Counts}
use Rattle.fol_sections.specs.declared.pages.Page.{Page}
use Rattle.fol_sections.proofs.Margins.{count-like}
use Rattle.fol_sections.proofs.NumberSteps.{all_among}
use Rattle.fol_sections.proofs.PageRuns.{after_off, after_on, before_near, before_on, kept_on, off_page, on_page}
use Rattle.fol_sections.proofs.PageStretches.{filter_stretch, near_nowhere}

-- ---- what is kept of a section that may leave
-- as many sections are near: a section leaves only where none is
near_left : (b : Bool) (o : Option Counts) → (unwrap_or (cond (b && nat_eq (unwrap_or o no_counts).near 0) None o) no_counts).near ≡ (unwrap_or o no_counts).near
near_left false o = refl
near_left true o = elim (cases_Bool (nat_eq (unwrap_or o no_counts).near 0)) [
  | inl e ↦ rw e (sym (eqb-true _ _ e))
  | inr e ↦ rw e refl
]

-- where some are near, it stays, whether it is listed or not
stays : (a b l : Bool) (o : Option Counts) → l ≡ false → cond (a && l) None o ≡ cond (b && l) None o
stays a b l o e = rw e (never a ∙ sym (never b))
  where
    never : (a : Bool) → cond (a && false) None o ≡ o
    never true = refl
    never false = refl

leaves : (a l : Bool) (o : Option Counts) → l ≡ true → None ≡ cond ((a || true) && l) None o
leaves true l o e = rw e refl
leaves false l o e = rw e refl

or_no : (a : Bool) → (a || false) ≡ a
or_no true = refl
or_no false = refl

-- what leaves with one part or with the next leaves with both
both_leave : (a b l : Bool) (o : Option Counts) → cond (b && l) None (cond (a && l) None o) ≡ cond ((a || b) && l) None o
both_leave true true true o = refl
both_leave true true false o = refl
both_leave true false true o = refl
both_leave true false false o = refl
both_leave false b l o = refl

nothing_left : (b : Bool) (o : Option Counts) → o ≡ None → o ≡ cond b None o
nothing_left true o e = e
nothing_left false o e = refl

-- ---- a section of a list that may leave its page
module _ (first now : Page) (part : List SectionPos) (i : ℕ) (d : SectionPos) (l : i < length part) (near : (q : SectionPos) → near_on now q ≡ near_on first q)
    (out : (q : SectionPos) → All (IsOnPage q) part → counts_on now q ≡ cond (is_among (take i part) q && nat_eq (near_on first q) 0) None (counts_on first q)) where
  abbrev next : SectionPos
  next = get_or part i d

  more : (q : SectionPos) → is_among (take (i + 1) part) q ≡ (is_among (take i part) q || same_section q next)
  more q = list_any_more (same_section q) part i d l

  -- some are near it, and it stays
  pub out_stays : nat_eq (near_on first next) 0 ≡ false → (q : SectionPos) → All (IsOnPage q) part → counts_on now q ≡ cond (is_among (take (i + 1) part) q && nat_eq (near_on first q) 0) None (counts_on first q)
  out_stays some q on = out q on ∙ elim (cases_Bool (same_section q next)) [
    | inl y ↦ let e = same_section-true q next y in stays (is_among (take i part) q) (is_among (take (i + 1) part) q) (nat_eq (near_on first q) 0) (counts_on first q) (ap (λ s. nat_eq (near_on first s) 0) e ∙ some)
    | inr n ↦ ap (λ b. cond (b && nat_eq (near_on first q) 0) None (counts_on first q)) (sym (more q ∙ ap (λ b. is_among (take i part) q || b) n ∙ or_no (is_among (take i part) q)))
  ]

  -- none is, and it leaves
  module _ (whole : 32 ≤ length now.sections) (place : ℕ) (is : place ≡ place_of next) (none : near_on now next ≡ 0) where
    abbrev cleared : Page
    cleared = record { sections = slice_set now.sections place None }

    here : (q : SectionPos) → place_of q ≡ place → counts_on cleared q ≡ None
    here q e = ap (λ n. slice_index_or (slice_set now.sections place None) n None) e ∙ get_or-set_same now.sections place None None (let f = place_few next in omega (arith, f, is))

    there : (q : SectionPos) → place_of q ≢ place → counts_on cleared q ≡ counts_on now q
    there q n = get_or-set_other now.sections place (place_of q) None None n

    pub near_cleared : (q : SectionPos) → near_on cleared q ≡ near_on first q
    near_cleared q = elim (cases_eq (place_of q) place) [
      | inl e ↦
          let same : near_on now q ≡ near_on now next = ap (λ n. (unwrap_or (slice_index_or now.sections n None) no_counts).near) (e ∙ is) in
          ap (λ o. (unwrap_or o no_counts).near) (here q e) ∙ sym (same ∙ none) ∙ near q
      | inr n ↦ ap (λ o. (unwrap_or o no_counts).near) (there q n) ∙ near q
    ]

    pub out_leaves : (q : SectionPos) → All (IsOnPage q) part → counts_on cleared q ≡ cond (is_among (take (i + 1) part) q && nat_eq (near_on first q) 0) None (counts_on first q)
    out_leaves q on = elim (cases_Bool (same_section q next)) [
      | inl y ↦
          let e = same_section-true q next y in
          let lonely : nat_eq (near_on first q) 0 ≡ true = eq-eqb _ _ (sym (near q) ∙ ap (near_on now) e ∙ none) in
          here q (ap place_of e ∙ sym is) ∙ leaves (is_among (take i part) q) (nat_eq (near_on first q) 0) (counts_on first q) lonely
          ∙ ap (λ b. cond (b && nat_eq (near_on first q) 0) None (counts_on first q)) (sym (more q ∙ ap (λ b. is_among (take i part) q || b) y))
      | inr n ↦
          let at = on i d l in
          let apart : place_of q ≢ place = λ e. true≢false (sym (same_section-self q ∙ refl) ∙ ap (same_section q) (sym (place_tells next q at.0 at.1 (e ∙ is))) ∙ n) in
          there q apart ∙ out q on ∙ ap (λ b. cond (b && nat_eq (near_on first q) 0) None (counts_on first q)) (sym (more q ∙ ap (λ b. is_among (take i part) q || b) n ∙ or_no (is_among (take i part) q)))
    ]

-- ---- sections of one page
-- a section that is listed lies in the page
pub listed_on : (first : SectionPos) (part : List SectionPos) → All (IsOnPage first) part → (q : SectionPos) → IsOnPage first q → All (IsOnPage q) part
listed_on first part all q on = All-weaker (IsOnPage first) (IsOnPage q) (λ s a. (a.0 ∙ sym on.0, a.1 ∙ sym on.1)) part all

-- how many of them pass a test of numbers that agree in the page
pub count_stretch : (test : ℕ → Bool) (f g : SectionPos → ℕ) (first : SectionPos) (xs : List SectionPos) → All (IsOnPage first) xs → ((q : SectionPos) → IsOnPage first q → g q ≡ f q)
    → count_by (λ s. test (f s)) xs ≡ count_by (λ s. test (g s)) xs
count_stretch test f g first xs all same = sym (length-filter (λ s. test (f s)) xs) ∙ ap length (filter_stretch test f g first xs all same) ∙ length-filter (λ s. test (g s)) xs

module _ (before after : List ((ℤ × ℤ) × Page)) (first : SectionPos) (old new : Page) (was : page_at before (page_of first.x) first.z ≡ Some old)
    (step : (a b : ℤ) → page_at after a b ≡ cond (is_same (page_of first.x) first.z a b) (Some new) (page_at before a b))
    (part : List SectionPos) (all : All (IsOnPage first) part)
    (out : (q : SectionPos) → All (IsOnPage q) part → counts_on new q ≡ cond (is_among part q && nat_eq (near_on old q) 0) None (counts_on old q)) where
  kept : (q : SectionPos) → option_and_then (λ p. counts_on p q) (page_at before (page_of first.x) first.z) ≡ counts_on old q
  kept = kept_on before first old was

  pub out_of_page : (q : SectionPos) → counts_at after q ≡ cond (is_among part q && nat_eq (near_at before q) 0) None (counts_at before q)
  out_of_page q = elim (cases_Bool (is_same (page_of first.x) first.z (page_of q.x) q.z)) [
    | inl e ↦
        let on = on_page first q e in
        after_on before first old kept after new step q on ∙ out q (listed_on first part all q on)
        ∙ (λ i. cond (is_among part q && nat_eq (sym (before_near before first old kept q on) i) 0) None (sym (before_on before first old kept q on) i))
    | inr e ↦
        let none : is_among part q ≡ false = elim (cases_Bool (is_among part q)) [
          | inr k ↦ k
          | inl k ↦ absurd (off_page first q e (all_among (IsOnPage first) part q all k))
        ] in
        after_off before first old kept after new step q e ∙ rw none refl
  ]

-- where the page is not there, all of them are dead, and nothing changes
module _ (entries : List ((ℤ × ℤ) × Page)) (first : SectionPos) (part : List SectionPos) (all : All (IsOnPage first) part) (none : page_at entries (page_of first.x) first.z ≡ None) where
  pub out_of_none : (q : SectionPos) → counts_at entries q ≡ cond (is_among part q && nat_eq (near_at entries q) 0) None (counts_at entries q)
  unfolding counts_at
  out_of_none q = elim (cases_Bool (is_among part q)) [
    | inr e ↦ rw e refl
    | inl e ↦
        let on = all_among (IsOnPage first) part q all e in
        nothing_left (is_among part q && nat_eq (near_at entries q) 0) (counts_at entries q) ((λ i. option_and_then (λ p. counts_on p q) (page_at entries (on.0 i) (on.1 i))) ∙ ap (option_and_then (λ p. counts_on p q)) none)
  ]

  pub all_dead : length part ≡ count_by (λ s. nat_eq (near_at entries s) 0) part
  all_dead = every part ∙ count_stretch (λ n. nat_eq n 0) (λ q. 0) (near_at entries) first part all (λ q on. near_nowhere entries first q on none)
    where
      every : (xs : List SectionPos) → length xs ≡ count_by (λ s. nat_eq 0 0) xs
      every [] = refl
      every (x ∷ xs) = omega (arith, every xs, count_by-cons (λ (s : SectionPos). nat_eq 0 0) x xs)

-- ---- one part of a list more
module _ (first now next : List ((ℤ × ℤ) × Page)) (part after rest : List SectionPos) (split : rest ≡ part ++ after) (near : (q : SectionPos) → near_at now q ≡ near_at first q)
    (step : (q : SectionPos) → counts_at next q ≡ cond (is_among part q && nat_eq (near_at now q) 0) None (counts_at now q)) where
  near_step : (q : SectionPos) → near_at next q ≡ near_at now q
  unfolding near_at
  near_step q = ap (λ o. (unwrap_or o no_counts).near) (step q) ∙ near_left (is_among part q) (counts_at now q)

  pub near_more : (q : SectionPos) → near_at next q ≡ near_at first q
  near_more q = near_step q ∙ near q

  pub out_more : (q : SectionPos) (all : Option Counts) → cond (is_among rest q && nat_eq (near_at now q) 0) None (counts_at now q) ≡ all
      → cond (is_among after q && nat_eq (near_at next q) 0) None (counts_at next q) ≡ all
  out_more q all h =
      (λ i. cond (is_among after q && nat_eq (near_step q i) 0) None (step q i))
      ∙ both_leave (is_among part q) (is_among after q) (nat_eq (near_at now q) 0) (counts_at now q)
      ∙ ap (λ b. cond (b && nat_eq (near_at now q) 0) None (counts_at now q)) (sym (ap (λ xs. is_among xs q) split ∙ list_any-append (same_section q) part after))
      ∙ h

  pub dead_more : (dead more all : ℕ) → dead + count_by (λ s. nat_eq (near_at first s) 0) rest ≡ all → more ≡ count_by (λ s. nat_eq (near_at now s) 0) part
      → (dead + more) + count_by (λ s. nat_eq (near_at first s) 0) after ≡ all
  dead_more dead more all h e =
      let same = count-like (λ s. nat_eq (near_at now s) 0) (λ s. nat_eq (near_at first s) 0) part (λ s. ap (λ n. nat_eq n 0) (near s)) in
      let whole = ap (count_by (λ s. nat_eq (near_at first s) 0)) split ∙ count_by-append (λ s. nat_eq (near_at first s) 0) part after in
      omega (arith, h, e, same, whole)
