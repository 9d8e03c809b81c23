-- Places in pages, and what a page's change changes.
use Rattle.std.proofs.Common.{◌≡◌, ℕ, zero, suc, ◌≤◌, refl, sym, ◌∙◌, ap, arith, Bool, true, false, cond, not, inl, inr, List, [], ◌∷◌, length, replicate}
use Rattle.std.specs.Prelude.{ℤ, Option, Some, None, is_some, slice_index_or, slice_set}
use Rattle.std.specs.List.{list_all}
use Rattle.std.specs.Option.{option_and_then}
use Rattle.std.proofs.lemmas.Bool.{cases_Bool, true≢false}
use Rattle.std.proofs.lemmas.List.{get_or-set_same, get_or-set_other}
use Rattle.fol_model.specs.declared.places.SectionPos.{SectionPos}
use Rattle.fol_model.specs.Geometry.{same_section}
use Rattle.fol_laws.proofs.SamePlaces.{same_section-true, same_section-self}
use Rattle.fol_pages.proofs.PagePlaces.{place_few, place_tells, same_place, same_self}
use Rattle.fol_sections.specs.Places.{is_same}
use Rattle.fol_sections.specs.Pages.{counts_at, counts_on, has_page, is_here, page_at, page_of, place_of}
use Rattle.fol_sections.specs.declared.pages.Counts.{Counts}
use Rattle.fol_sections.specs.declared.pages.Page.{Page}

abbrev in_same_page : SectionPos → SectionPos → Bool
in_same_page s q = is_same (page_of s.x) s.z (page_of q.x) q.z

pub page_self : (s : SectionPos) → in_same_page s s ≡ true
page_self s = same_self (page_of s.x) s.z

module _ (before after : List ((ℤ × ℤ) × Page)) (s : SectionPos) (p : Page) (whole : 32 ≤ length p.sections) (place : ℕ) (is : place ≡ place_of s) (counts : Option Counts)
    (step : (a b : ℤ) → page_at after a b ≡ cond (is_same (page_of s.x) s.z a b) (Some (record { sections = slice_set p.sections place counts })) (page_at before a b)) where
  -- the page was there, or there was none and this one has nobody
  pub counts-written : (q : SectionPos) → option_and_then (λ p. counts_on p q) (page_at before (page_of s.x) s.z) ≡ counts_on p q → counts_at after q ≡ cond (same_section s q) counts (counts_at before q)
  unfolding counts_at
  counts-written q was = ap (option_and_then (λ p. counts_on p q)) (step (page_of q.x) q.z) ∙ elim (cases_Bool (in_same_page s q)) [
    | inl e ↦
        let there = same_place (page_of s.x) s.z (page_of q.x) q.z e in
        let old : option_and_then (λ p. counts_on p q) (page_at before (page_of q.x) q.z) ≡ counts_on p q = let x = sym there.0 in let z = sym there.1 in (λ i. option_and_then (λ p. counts_on p q) (page_at before (x i) (z i))) ∙ was in
        rw (e, old) (elim (cases_Bool (same_section s q)) [
          | inl h ↦ let k = same_section-true s q h in rw h (ap (λ n. slice_index_or (slice_set p.sections place counts) n None) (sym (is ∙ ap place_of k)) ∙ get_or-set_same p.sections place counts None (omega (arith, place_few s)))
          | inr h ↦ rw h (get_or-set_other p.sections place (place_of q) counts None (λ m. true≢false (sym (same q (place_tells s q there.0 there.1 (m ∙ is))) ∙ h)))
        ])
    | inr e ↦
        let other : same_section s q ≡ false = elim (cases_Bool (same_section s q)) [
          | inr h ↦ h
          | inl h ↦ let k = same_section-true s q h in absurd (true≢false (sym (page_self s) ∙ ap (in_same_page s) k ∙ e))
        ] in
        rw (e, other) refl
  ]
    where
      same : (q : SectionPos) → s ≡ q → same_section s q ≡ true
      same q k = ap (same_section s) (sym k) ∙ same_section-self s

-- a present section has a page
pub here-page : (entries : List ((ℤ × ℤ) × Page)) (s : SectionPos) → is_here entries s ≡ true → has_page entries (page_of s.x) s.z ≡ true
unfolding is_here has_page counts_at
here-page entries s h = some (page_at entries (page_of s.x) s.z) h
  where
    some : (o : Option Page) → is_some (option_and_then (λ p. counts_on p s) o) ≡ true → is_some o ≡ true
    some None e = absurd (true≢false (sym e))
    some (Some p) e = refl

-- ---- pages with nobody
pub in_blank : (n k : ℕ) → slice_index_or (replicate {A = Option Counts} n None) k None ≡ None
in_blank zero k = refl
in_blank (suc n) zero = refl
in_blank (suc n) (suc k) = in_blank n k

pub nobody_in : (xs : List (Option Counts)) → list_all (λ counts. not (is_some counts)) xs ≡ true → (k : ℕ) → slice_index_or xs k None ≡ None
nobody_in [] h k = refl
nobody_in (None ∷ xs) h zero = refl
nobody_in (None ∷ xs) h (suc k) = nobody_in xs h k
nobody_in (Some x ∷ xs) h k = absurd (true≢false (sym h))

-- a page with nobody may leave
pub counts-gone : (before after : List ((ℤ × ℤ) × Page)) (x z : ℤ) → ((q : SectionPos) → (page_of q.x ≡ x) × (q.z ≡ z) → counts_at before q ≡ None)
    → ((a b : ℤ) → page_at after a b ≡ cond (is_same x z a b) None (page_at before a b)) → (q : SectionPos) → counts_at after q ≡ counts_at before q
unfolding counts_at
counts-gone before after x z none step q = ap (option_and_then (λ p. counts_on p q)) (step (page_of q.x) q.z) ∙ elim (cases_Bool (is_same x z (page_of q.x) q.z)) [
  | inr e ↦ rw e refl
  | inl e ↦ let k = same_place x z (page_of q.x) q.z e in rw e (sym (none q (sym k.0, sym k.1)))
]

pub none_there : {X : Type 0} (o : Option X) → is_some o ≡ false → o ≡ None
none_there None h = refl
none_there (Some x) h = absurd (true≢false h)
