-- A list of sections by stretches that lie in one page each.
use Rattle.std.proofs.Common.{◌≡◌, ℕ, ◌+◌, ◌<◌, ◌≤◌, refl, sym, ◌∙◌, ap, arith, Bool, true, false, cond, ◌||◌, inl, inr, List, length, get_or, take, drop}
use Rattle.std.specs.Prelude.{ℤ, nat_eq, pos, Option, Some, None, is_some}
use Rattle.std.specs.List.{count_by, list_any}
use Rattle.std.proofs.lemmas.Bool.{and_from, cases_Bool, eq-eqb, or_left, or_right, true≢false}
use Rattle.std.proofs.lemmas.List.{take-append-drop}
use Rattle.std.proofs.lemmas.List.Folds.{list_any-append}
use Rattle.std.proofs.lemmas.List.Sums.{count_by-le-length}
use Rattle.fol_model.specs.declared.places.SectionPos.{SectionPos}
use Rattle.fol_model.specs.Geometry.{is_among, same_section}
use Rattle.fol_pages.specs.Pages.{InOnePage, has_page, is_listed, is_same, page_at, page_of}
use Rattle.fol_pages.proofs.AbsentPages.{is_absent, room_left, some_absent}
use Rattle.fol_region_tables.specs.Owners.{AreAt, IsAt, is_new, owner_in, owner_on}
use Rattle.fol_region_tables.specs.declared.pages.OwnerPage.{OwnerPage}
use Rattle.fol_region_tables.proofs.Among.{among_at}

abbrev pub origin : SectionPos
origin = record { x = pos 0; z = pos 0 }

-- ---- the first stretch and the others
module _ (rest front back : List SectionPos) (n : ℕ) (f : front ≡ take n rest) (b : back ≡ drop n rest) where
  among_parts : (q : SectionPos) → is_among rest q ≡ (is_among front q || is_among back q)
  among_parts q = ap (list_any (same_section q)) (sym (take-append-drop n rest)) ∙ list_any-append (same_section q) (take n rest) (drop n rest) ∙ (λ i. list_any (same_section q) (sym f i) || list_any (same_section q) (sym b i))

  pub front_within : (q : SectionPos) → is_among front q ≡ true → is_among rest q ≡ true
  front_within q h = among_parts q ∙ or_left (is_among front q) (is_among back q) h

  pub back_within : (q : SectionPos) → is_among back q ≡ true → is_among rest q ≡ true
  back_within q h = among_parts q ∙ or_right (is_among front q) (is_among back q) h

  -- a function that is set at the stretch is still to be set at the others
  pub set_stretch : (id : ℕ) (now next : SectionPos → ℕ) → ((q : SectionPos) → next q ≡ cond (is_among front q) id (now q)) → (q : SectionPos) → cond (is_among back q) id (next q) ≡ cond (is_among rest q) id (now q)
  set_stretch id now next set q = ap (cond (is_among back q) id) (set q) ∙ either (is_among front q) (is_among back q) ∙ ap (λ t. cond t id (now q)) (sym (among_parts q))
    where
      either : (a b : Bool) → cond b id (cond a id (now q)) ≡ cond (a || b) id (now q)
      either true true = refl
      either true false = refl
      either false true = refl
      either false false = refl

-- the stretch lies in the page of its first section
pub stretch_at : (rest front : List SectionPos) (n : ℕ) → front ≡ take n rest → 0 < length front → InOnePage (take n rest) → (key : ℤ × ℤ) → key ≡ (page_of (get_or front 0 origin).x, (get_or front 0 origin).z) → AreAt key.0 key.1 front
stretch_at rest front n f some one key at s h =
    let first = ap (λ xs. is_among xs (get_or front 0 origin)) (sym f) ∙ among_at front 0 origin some in
    let on = one (get_or front 0 origin) s first (ap (λ xs. is_among xs s) (sym f) ∙ h) in
    (on.0 ∙ sym (ap (λ (p : ℤ × ℤ). p.0) at), on.1 ∙ sym (ap (λ (p : ℤ × ℤ). p.1) at))

-- ---- the memory that a stretch takes
-- where there is no page, no section has a region
no_owner : (pages : List ((ℤ × ℤ) × OwnerPage)) (x z : ℤ) → has_page pages x z ≡ false → (s : SectionPos) → IsAt x z s → owner_in pages s ≡ 0
unfolding owner_in has_page
no_owner pages x z none s at = (λ i. owner_on (page_at pages (at.0 i) (at.1 i)) s) ∙ absent (page_at pages x z) none
  where
    absent : (o : Option OwnerPage) → is_some o ≡ false → owner_on o s ≡ 0
    absent None h = refl
    absent (Some p) h = absurd (true≢false h)

module _ (first now : List ((ℤ × ℤ) × OwnerPage)) (sections front : List SectionPos) (x z : ℤ) (at : AreAt x z front) (some : 0 < length front)
    (within : (q : SectionPos) → is_among front q ≡ true → is_among sections q ≡ true) (there : (a b : ℤ) → has_page first a b ≡ true → has_page now a b ≡ true)
    (pages : List (ℤ × ℤ)) (cover : (s : SectionPos) → is_new (owner_in first) sections s ≡ true → is_listed pages (page_of s.x) s.z ≡ true) where
  -- a page that is absent is one of those in which sections with no region lie
  listed : has_page now x z ≡ false → is_listed pages x z ≡ true
  listed none =
      let s : SectionPos = get_or front 0 origin in
      let member = among_at front 0 origin some in
      let on = at s member in
      let none_first : has_page first x z ≡ false = elim (cases_Bool (has_page first x z)) [ inr e ↦ e | inl e ↦ absurd (true≢false (sym (there x z e) ∙ none)) ] in
      let new : is_new (owner_in first) sections s ≡ true = and_from (is_among sections s) (nat_eq (owner_in first s) 0) (within s member) (eq-eqb (owner_in first s) 0 (no_owner first x z none_first s on)) in
      (λ i. is_listed pages (sym on.0 i) (sym on.1 i)) ∙ cover s new

  -- for such a page there is room
  pub stretch_room : (was is : ℕ) → length pages ≤ was → was + count_by (is_absent now) pages ≤ is + count_by (is_absent first) pages → has_page now x z ≡ false → 0 < is
  stretch_room was is few kept none = omega (arith, kept, few, some_absent x z pages (listed none) now none, count_by-le-length (is_absent first) pages)

  module _ (next : List ((ℤ × ℤ) × OwnerPage)) (came : (a b : ℤ) → has_page next a b ≡ (is_same x z a b || has_page now a b)) where
    pub still_there : (a b : ℤ) → has_page first a b ≡ true → has_page next a b ≡ true
    still_there a b h = came a b ∙ or_right (is_same x z a b) (has_page now a b) (there a b h)

    pub room_kept : (was is left : ℕ) → was + count_by (is_absent now) pages ≤ is + count_by (is_absent first) pages → is ≤ left + cond (has_page now x z) 0 1
        → was + count_by (is_absent next) pages ≤ left + count_by (is_absent first) pages
    room_kept was is left kept step = omega (arith, kept, room_left now next x z came pages listed is left step)
