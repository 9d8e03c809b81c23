-- Stretches of a list of sections that lie in one page.
use Rattle.std.proofs.Common.{◌≡◌, ℕ, suc, ◌+◌, ◌<◌, ◌≤◌, sym, ◌∙◌, ap, refl, arith, Bool, true, false, not, List, [], ◌∷◌, ◌++◌, length, get_or, take, append_assoc, length-append}
use Rattle.std.specs.Prelude.{ℤ, pos, Some, None, is_some, sum_by}
use Rattle.std.specs.List.{All, filter}
use Rattle.std.specs.Option.{option_and_then, unwrap_or}
use Rattle.std.proofs.lemmas.List.Elements.{filter-append}
use Rattle.std.proofs.lemmas.List.Filters.{length-filter_both}
use Rattle.std.proofs.lemmas.List.Folds.{list_any_at}
use Rattle.std.proofs.lemmas.List.Sums.{sum_by-append, sum_by-cons}
use Rattle.fol_model.specs.declared.places.SectionPos.{SectionPos}
use Rattle.fol_model.specs.Geometry.{is_among, same_section}
use Rattle.fol_laws.proofs.SamePlaces.{same_section-self}
use Rattle.fol_pages.specs.Pages.{InOnePage}
use Rattle.fol_sections.specs.Pages.{IsOnPage, chunks_at, chunks_on, counts_at, counts_on, near_at, near_on, no_counts, page_at, page_of}
use Rattle.fol_sections.specs.declared.pages.Page.{Page}
use Rattle.fol_sections.proofs.DeadSteps.{filter-like}
use Rattle.fol_sections.proofs.NumberSteps.{all_among}
use Rattle.fol_sections.proofs.PageRuns.{before_near, kept_on}
use Rattle.fol_sections.proofs.PageSteps.{none_there}

abbrev origin : SectionPos
origin = record { x = pos 0; z = pos 0 }

-- the sections at the head of a list that lie in one page lie in the page of the first
pub stretch_on : (rest part : List SectionPos) (n : ℕ) → part ≡ take n rest → 0 < length part → InOnePage (take n rest) → All (IsOnPage (get_or part 0 origin)) part
stretch_on rest part n is some one = on part some (rw (← is) at one)
  where
    on : (xs : List SectionPos) → 0 < length xs → InOnePage xs → All (IsOnPage (get_or xs 0 origin)) xs
    on xs some one i d l = one (get_or xs 0 origin) (get_or xs i d) (listed 0 origin some) (listed i d l)
      where
        listed : (i : ℕ) (d : SectionPos) → i < length xs → is_among xs (get_or xs i d) ≡ true
        listed i d l = list_any_at (same_section (get_or xs i d)) xs i d l (same_section-self (get_or xs i d))

module _ (entries : List ((ℤ × ℤ) × Page)) (first q : SectionPos) (on : IsOnPage first q) where
  -- what is near a section that lies in a page that is there
  pub near_there : (p : Page) → page_at entries (page_of first.x) first.z ≡ Some p → near_at entries q ≡ near_on p q
  near_there p was = before_near entries first p (kept_on entries first p was) q on

  -- nothing is near a section whose page is not there
  pub near_nowhere : page_at entries (page_of first.x) first.z ≡ None → near_at entries q ≡ 0
  unfolding near_at counts_at
  near_nowhere none = ap (λ o. (unwrap_or (option_and_then (λ p. counts_on p q) o) no_counts).near) ((λ i. page_at entries (on.0 i) (on.1 i)) ∙ none)

-- as in a page where it is not present
pub near_blank : (p : Page) (q : SectionPos) → is_some (counts_on p q) ≡ false → near_on p q ≡ 0
near_blank p q blank = ap (λ o. (unwrap_or o no_counts).near) (none_there (counts_on p q) blank)

-- tests of numbers that agree in the page keep the same of sections there
pub filter_stretch : (test : ℕ → Bool) (f g : SectionPos → ℕ) (first : SectionPos) (xs : List SectionPos) → All (IsOnPage first) xs → ((q : SectionPos) → IsOnPage first q → g q ≡ f q)
    → filter (λ s. test (f s)) xs ≡ filter (λ s. test (g s)) xs
filter_stretch test f g first xs all same = filter-like (λ s. test (f s)) (λ s. test (g s)) xs (λ s h. ap test (sym (same s (all_among (IsOnPage first) xs s all h))))

-- ---- sums over a stretch
-- numbers that agree in the page have the same sum over sections there
pub sum_stretch : (f g : SectionPos → ℕ) (first : SectionPos) (xs : List SectionPos) → All (IsOnPage first) xs → ((q : SectionPos) → IsOnPage first q → g q ≡ f q) → sum_by f xs ≡ sum_by g xs
sum_stretch f g first [] all same = refl
sum_stretch f g first (x ∷ xs) all same =
    let rest = sum_stretch f g first xs (λ k d l. all (suc k) d (omega arith)) same in
    let one = same x (all 0 x (omega arith)) in
    omega (arith, rest, one, sum_by-cons f x xs, sum_by-cons g x xs)

pub sum_none : (xs : List SectionPos) → sum_by (λ (s : SectionPos). 0) xs ≡ 0
sum_none [] = refl
sum_none (x ∷ xs) = omega (arith, sum_none xs, sum_by-cons (λ (s : SectionPos). 0) x xs)

module _ (entries : List ((ℤ × ℤ) × Page)) (first q : SectionPos) (on : IsOnPage first q) where
  -- how many loaded chunks a section holds that lies in a page that is there
  pub chunks_there : (p : Page) → page_at entries (page_of first.x) first.z ≡ Some p → chunks_at entries q ≡ chunks_on p q
  unfolding chunks_at counts_at
  chunks_there p was = (λ i. (unwrap_or (option_and_then (λ p. counts_on p q) (page_at entries (on.0 i) (on.1 i))) no_counts).loaded) ∙ ap (λ o. (unwrap_or (option_and_then (λ p. counts_on p q) o) no_counts).loaded) was

  -- a section whose page is not there holds none
  pub chunks_nowhere : page_at entries (page_of first.x) first.z ≡ None → chunks_at entries q ≡ 0
  unfolding chunks_at counts_at
  chunks_nowhere none = (λ i. (unwrap_or (option_and_then (λ p. counts_on p q) (page_at entries (on.0 i) (on.1 i))) no_counts).loaded) ∙ ap (λ o. (unwrap_or (option_and_then (λ p. counts_on p q) o) no_counts).loaded) none

-- ---- a stretch more
pub sum_on : (f : SectionPos → ℕ) (rest part after : List SectionPos) → rest ≡ part ++ after → sum_by f rest ≡ sum_by f part + sum_by f after
sum_on f rest part after split = ap (sum_by f) split ∙ sum_by-append f part after

module _ (p : SectionPos → Bool) (old new rest part after : List SectionPos) (adds : new ≡ old ++ filter p part) (split : rest ≡ part ++ after) where
  pub filter_on : (all : List SectionPos) → old ++ filter p rest ≡ all → new ++ filter p after ≡ all
  filter_on all h =
      ap (λ xs. xs ++ filter p after) adds ∙ append_assoc old (filter p part) (filter p after)
      ∙ ap (λ xs. old ++ xs) (sym (ap (filter p) split ∙ filter-append p part after)) ∙ h

  pub fits_on : (room : ℕ) → length old + length rest ≤ room → length new + length after ≤ room
  fits_on room h =
      let few = length-filter_both p (λ s. not (p s)) (λ s. refl) part in
      omega (arith, ap length adds, ap length split, length-append old (filter p part), length-append part after, few)
