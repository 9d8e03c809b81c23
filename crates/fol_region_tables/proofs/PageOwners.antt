-- The regions of sections in pages, and what a page's change changes.
use Rattle.std.proofs.Common.{◌≡◌, ℕ, zero, suc, refl, sym, ◌∙◌, ap, true, false, cond, ◌||◌, inl, inr, List, [], ◌∷◌, replicate}
use Rattle.std.specs.Prelude.{ℤ, nat_eq, Some, None, slice_index_or}
use Rattle.std.specs.Cmp.{both_ways}
use Rattle.std.specs.List.{list_all, list_any}
use Rattle.std.proofs.lemmas.Bool.{and_parts, cases_Bool, eq-eqb, eqb-true, true≢false}
use Rattle.fol_model.specs.declared.places.SectionPos.{SectionPos}
use Rattle.fol_model.specs.Geometry.{is_among, same_section}
use Rattle.fol_laws.proofs.SamePlaces.{same_section-true, same_section-self}
use Rattle.fol_pages.specs.Pages.{is_same, page_at, page_of, place_of}
use Rattle.fol_pages.proofs.PagePlaces.{place_tells, same_place, same_self}
use Rattle.fol_region_tables.specs.Owners.{AreAt, IsAt, owner_in, owner_on}
use Rattle.fol_region_tables.specs.declared.pages.OwnerPage.{OwnerPage}

-- in one page the place tells the section
pub same_at : (x z : ℤ) (s q : SectionPos) → IsAt x z s → IsAt x z q → nat_eq (place_of s) (place_of q) ≡ same_section q s
same_at x z s q a b = both_ways _ _
    (λ h. let k = place_tells q s (b.0 ∙ sym a.0) (b.1 ∙ sym a.1) (eqb-true (place_of s) (place_of q) h) in ap (same_section q) (sym k) ∙ same_section-self q)
    (λ h. let k = same_section-true q s h in eq-eqb (place_of s) (place_of q) (ap place_of (sym k)))

pub among_places : (x z : ℤ) (sections : List SectionPos) → AreAt x z sections → (q : SectionPos) → IsAt x z q → list_any (λ s. nat_eq (place_of s) (place_of q)) sections ≡ is_among sections q
among_places x z [] at q on = refl
among_places x z (s ∷ sections) at q on = λ i. same_at x z s q (at s (or_first s sections)) on i || among_places x z sections (λ r h. at r (or_rest r s sections h)) q on i
  where
    or_first : (s : SectionPos) (sections : List SectionPos) → is_among (s ∷ sections) s ≡ true
    or_first s sections = let e = same_section-self s in rw e refl

    or_rest : (r s : SectionPos) (sections : List SectionPos) → is_among sections r ≡ true → is_among (s ∷ sections) r ≡ true
    or_rest r s sections h = elim (cases_Bool (same_section r s)) [ inl e ↦ rw e refl | inr e ↦ rw e h ]

-- a section of another page is none of them
pub not_among : (x z : ℤ) (sections : List SectionPos) → AreAt x z sections → (q : SectionPos) → is_same x z (page_of q.x) q.z ≡ false → is_among sections q ≡ false
not_among x z sections at q off = elim (cases_Bool (is_among sections q)) [
  | inr e ↦ e
  | inl e ↦ let k = at q e in absurd (true≢false (sym (same_self (page_of q.x) q.z) ∙ (λ i. is_same (k.0 i) (k.1 i) (page_of q.x) q.z) ∙ off))
]

-- ---- one page changed, or came
module _ (before after : List ((ℤ × ℤ) × OwnerPage)) (x z : ℤ) (p : OwnerPage)
    (step : (a b : ℤ) → page_at after a b ≡ cond (is_same x z a b) (Some p) (page_at before a b)) where
  pub owner-written : (q : SectionPos) → IsAt x z q → owner_in after q ≡ owner_on (Some p) q
  unfolding owner_in
  owner-written q on =
      let e : is_same x z (page_of q.x) q.z ≡ true = (λ i. is_same (sym on.0 i) (sym on.1 i) (page_of q.x) q.z) ∙ same_self (page_of q.x) q.z in
      ap (λ o. owner_on o q) (step (page_of q.x) q.z ∙ ap (λ b. cond b (Some p) (page_at before (page_of q.x) q.z)) e)

  after_off : (q : SectionPos) → is_same x z (page_of q.x) q.z ≡ false → owner_in after q ≡ owner_in before q
  unfolding owner_in
  after_off q e = ap (λ o. owner_on o q) (step (page_of q.x) q.z ∙ ap (λ b. cond b (Some p) (page_at before (page_of q.x) q.z)) e)

  before_at : (q : SectionPos) → IsAt x z q → owner_in before q ≡ owner_on (page_at before x z) q
  unfolding owner_in
  before_at q on = λ i. owner_on (page_at before (on.0 i) (on.1 i)) q

  -- a region written at the places of some sections of the page
  pub owners-written : (sections : List SectionPos) (id : ℕ) → AreAt x z sections
      → ((q : SectionPos) → slice_index_or p.owners (place_of q) 0 ≡ cond (list_any (λ s. nat_eq (place_of s) (place_of q)) sections) id (owner_on (page_at before x z) q))
      → (q : SectionPos) → owner_in after q ≡ cond (is_among sections q) id (owner_in before q)
  owners-written sections id at written q = elim (cases_Bool (is_same x z (page_of q.x) q.z)) [
    | inl e ↦
        let k = same_place x z (page_of q.x) q.z e in
        let on : IsAt x z q = (sym k.0, sym k.1) in
        owner-written q on ∙ written q ∙ (λ i. cond (among_places x z sections at q on i) id (sym (before_at q on) i))
    | inr e ↦ let none = not_among x z sections at q e in rw none (after_off q e)
  ]

-- ---- no page, or one in which no section has a region
-- sections of a page that is not there have no region to be taken
pub none_taken : (pages : List ((ℤ × ℤ) × OwnerPage)) (x z : ℤ) (sections : List SectionPos) → AreAt x z sections → page_at pages x z ≡ None → (q : SectionPos) → owner_in pages q ≡ cond (is_among sections q) 0 (owner_in pages q)
unfolding owner_in
none_taken pages x z sections at none q = elim (cases_Bool (is_among sections q)) [
  | inl e ↦ let on = at q e in rw e ((λ i. owner_on (page_at pages (on.0 i) (on.1 i)) q) ∙ ap (λ o. owner_on o q) none)
  | inr e ↦ rw e refl
]

pub in_blank : (n k : ℕ) → slice_index_or (replicate {A = ℕ} n 0) k 0 ≡ 0
in_blank zero k = refl
in_blank (suc n) zero = refl
in_blank (suc n) (suc k) = in_blank n k

pub nobody_in : (ids : List ℕ) → list_all (λ id. nat_eq id 0) ids ≡ true → (k : ℕ) → slice_index_or ids k 0 ≡ 0
nobody_in [] h k = refl
nobody_in (id ∷ ids) h zero = eqb-true id 0 (and_parts (nat_eq id 0) (list_all (λ id. nat_eq id 0) ids) h).0
nobody_in (id ∷ ids) h (suc k) = nobody_in ids (and_parts (nat_eq id 0) (list_all (λ id. nat_eq id 0) ids) h).1 k

-- ---- a page that left, in which no section had a region
module _ (before after : List ((ℤ × ℤ) × OwnerPage)) (x z : ℤ) (step : (a b : ℤ) → page_at after a b ≡ cond (is_same x z a b) None (page_at before a b)) where
  pub owners-left : ((q : SectionPos) → IsAt x z q → owner_in before q ≡ 0) → (q : SectionPos) → owner_in after q ≡ owner_in before q
  unfolding owner_in
  owners-left nobody q = elim (cases_Bool (is_same x z (page_of q.x) q.z)) [
    | inl e ↦
        let k = same_place x z (page_of q.x) q.z e in
        ap (λ o. owner_on o q) (step (page_of q.x) q.z ∙ ap (λ b. cond b None (page_at before (page_of q.x) q.z)) e) ∙ sym (nobody q (sym k.0, sym k.1))
    | inr e ↦ ap (λ o. owner_on o q) (step (page_of q.x) q.z ∙ ap (λ b. cond b None (page_at before (page_of q.x) q.z)) e)
  ]

-- ---- no pages, and the same ones
pub nobody_owns : (pages : List ((ℤ × ℤ) × OwnerPage)) → pages ≡ [] → (s : SectionPos) → owner_in pages s ≡ 0
unfolding owner_in page_at
nobody_owns pages e s = ap (λ ps. owner_in ps s) e

module _ (before after : List ((ℤ × ℤ) × OwnerPage)) (same : (a b : ℤ) → page_at after a b ≡ page_at before a b) where
  pub same_owners : (q : SectionPos) → owner_in after q ≡ owner_in before q
  unfolding owner_in
  same_owners q = ap (λ o. owner_on o q) (same (page_of q.x) q.z)
