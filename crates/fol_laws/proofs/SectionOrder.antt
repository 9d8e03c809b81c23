-- The list of all sections is in order and has each section within the limits.
use Rattle.std.proofs.Common.{◌≡◌, ℕ, ◌+◌, ◌<◌, ◌≤◌, refl, sym, ◌∙◌, ap, arith, Bool, true, false, cond, List, length, ◌&&◌}
use Rattle.std.specs.Prelude.{ℤ, pos, neg_ℤ, ◌+ℤ◌, ◌-ℤ◌, ◌<ℤ◌, nat_abs, map, filter}
use Rattle.std.specs.List.{count_by, list_any}
use Rattle.std.specs.List.Sorted.{IsStrictlySortedBy}
use Rattle.std.specs.Ordering.{eq_by_cmp}
use Rattle.std.specs.declared.cmp.Ordering.TheVariants.{Less}
use Rattle.std.proofs.Math.Path.{fun_ext}
use Rattle.std.proofs.lemmas.List.Kept.{IsStrictlySortedBy-filter}
use Rattle.std.proofs.lemmas.List.Sums.{length-filter}
use Rattle.std.proofs.lemmas.Bool.{and_parts, leb-true, le-leb}
use borrow.Author.Differences.{ints}
use Rattle.fol_model.specs.declared.places.SectionPos.{SectionPos}
use Rattle.fol_model.specs.Geometry.{same_section, is_section, is_within, distance}
use Rattle.fol_model.specs.Universe.{from, coordinates, all_sections, section_cmp, count_sections, square}
use Rattle.fol_laws.specs.Orders.{Lists}
use Rattle.fol_model.proofs.PlaceKeys.{section_cmp_total, section_cmp_tells, same_section-true, same_section-self}
use Rattle.fol_laws.proofs.AllSections.{some_section-is, some_section-gives}
use Rattle.fol_laws.proofs.Coordinates.{list_any-from, list_any-from_gives, list_any-map, list_any-flat_map}
use Rattle.fol_laws.proofs.Listed as listed
use Rattle.fol_laws.proofs.Listed.{Tells}
use Rattle.fol_laws.proofs.Tests.{same_answer}
use Rattle.fol_laws.proofs.OrderSteps.{less, equal_self}
use Rattle.fol_laws.proofs.SortedRows.{plane_sorted}

pub sections_tell : Tells section_cmp
sections_tell = record { order = section_cmp_total; same = section_cmp_tells }

in_row : (z x y : ℤ) → x <ℤ y → section_cmp (record { x = x; z = z }) (record { x = y; z = z }) ≡ Less
unfolding section_cmp
in_row z x y h = let f = equal_self z in let e = less x y h in rw (f, e) refl

row_before : (z w x y : ℤ) → z <ℤ w → section_cmp (record { x = x; z = z }) (record { x = y; z = w }) ≡ Less
unfolding section_cmp
row_before z w x y h = let e = less z w h in rw e refl

pub sections_sorted : IsStrictlySortedBy section_cmp all_sections
unfolding all_sections coordinates
sections_sorted = plane_sorted section_cmp (λ z x. record { x = x; z = z }) in_row row_before _ _ _ _

-- the order ties just what is one section
tied : (a b : SectionPos) → eq_by_cmp section_cmp a b ≡ same_section a b
tied a b = same_answer (eq_by_cmp section_cmp a b) (same_section a b)
    (λ h. let e = listed.same_by section_cmp sections_tell a b h in rw e (same_section-self b))
    (λ h. let e = same_section-true a b h in rw e (listed.own section_cmp sections_tell b))

tied_to : (a : SectionPos) → eq_by_cmp section_cmp a ≡ same_section a
tied_to a = fun_ext (tied a)

listed_by : (a : SectionPos) (xs : List SectionPos) → list_any (eq_by_cmp section_cmp a) xs ≡ list_any (same_section a) xs
listed_by a xs = ap (λ (p : SectionPos → Bool). list_any p xs) (tied_to a)

in_all : (a : SectionPos) → is_section a ≡ true → list_any (eq_by_cmp section_cmp a) all_sections ≡ true
in_all a l = some_section-is (eq_by_cmp section_cmp a) a l (listed.own section_cmp sections_tell a)

pub sections_listed : Lists section_cmp is_section all_sections
sections_listed = record {
  order = sections_sorted;
  members = λ a. same_answer (list_any (eq_by_cmp section_cmp a) all_sections) (is_section a)
      (λ h. let s = some_section-gives (eq_by_cmp section_cmp a) h in let e = listed.same_by section_cmp sections_tell a s.0 s.2 in rw e s.1)
      (λ l. in_all a l);
}

pub section_members : (p : SectionPos → Bool) (xs : List SectionPos) (s : SectionPos) → list_any (same_section s) (filter p xs) ≡ (p s && list_any (same_section s) xs)
section_members p xs s = sym (listed_by s (filter p xs)) ∙ listed.filter_members section_cmp sections_tell p xs s ∙ ap (λ b. p s && b) (listed_by s xs)

-- a list in order whose members are the sections that pass is what the test keeps of all sections
pub section_rows_are : (p : SectionPos → Bool) (xs : List SectionPos) → IsStrictlySortedBy section_cmp xs → ((s : SectionPos) → list_any (same_section s) xs ≡ p s) → ((s : SectionPos) → p s ≡ true → is_section s ≡ true)
    → (xs ≡ filter p all_sections) × (length xs ≡ count_sections p)
section_rows_are p xs a h l = listed.rows_are section_cmp sections_tell all_sections sections_sorted p xs a (λ s. listed_by s xs ∙ h s) (λ s k. in_all s (l s k))

-- two tests that differ at most at one section, which q does not pass
pub section_count_change : (p q : SectionPos → Bool) (a : SectionPos) → is_section a ≡ true → q a ≡ false → ((s : SectionPos) → same_section a s ≡ false → p s ≡ q s) → count_sections p ≡ cond (p a) 1 0 + count_sections q
section_count_change p q a l z h = listed.count_change section_cmp sections_tell p q a z (λ s k. h s (sym (tied a s) ∙ k)) all_sections sections_sorted (in_all a l)

-- ---- the sections near a section
-- the place of a number among those at most r away from n
place : (n s : ℤ) (r : ℕ) → nat_abs (n -ℤ s) ≤ r → (i : ℕ) × (s ≡ (n +ℤ neg_ℤ (pos r)) +ℤ pos i) × (i < r + r + 1)
place n s r d = (nat_abs (s -ℤ (n +ℤ neg_ℤ (pos r))), omega (arith, ints), omega (arith, ints))

at_most : (n s w : ℤ) (r i : ℕ) → s ≡ w → w ≡ (n +ℤ neg_ℤ (pos r)) +ℤ pos i → i < r + r + 1 → nat_abs (n -ℤ s) ≤ r
at_most n s w r i e f l = omega (arith, ints)

pub square_members : (n : SectionPos) (r : ℕ) (s : SectionPos) → list_any (same_section s) (square n r) ≡ is_within n r s
unfolding square distance
square_members n r s =
    let xs : List ℤ = from (n.x +ℤ neg_ℤ (pos r)) (r + r + 1) in
    let row : ℤ → List SectionPos = λ z. map (λ x. record { x = x; z = z }) xs in
    let zs : List ℤ = from (n.z +ℤ neg_ℤ (pos r)) (r + r + 1) in
    same_answer _ _
    (λ h.
    let z = list_any-from_gives (λ z. list_any (same_section s) (row z)) _ _ (sym (list_any-flat_map (same_section s) row zs) ∙ h) in
    let x = list_any-from_gives (λ x. same_section s (record { x = x; z = z.0 })) _ _ (sym (list_any-map (same_section s) (λ x. record { x = x; z = z.0 }) xs) ∙ z.2) in
    let e : s ≡ record { x = x.0; z = z.0 } = same_section-true s _ x.2 in
    let i = x.1 in let j = z.1 in
    let a = at_most n.x s.x x.0 r i.0 (ap (λ (q : SectionPos). q.x) e) i.2 i.1 in
    let b = at_most n.z s.z z.0 r j.0 (ap (λ (q : SectionPos). q.z) e) j.2 j.1 in
    le-leb _ _ (omega arith))
    (λ h.
    let d = leb-true _ _ h in
    let i = place n.x s.x r (omega arith) in
    let j = place n.z s.z r (omega arith) in
    let inner : list_any (λ x. same_section s (record { x = x; z = s.z })) xs ≡ true = list_any-from (λ x. same_section s (record { x = x; z = s.z })) _ s.x _ i.0 i.1 i.2 (same_section-self s) in
    list_any-flat_map (same_section s) row zs ∙ list_any-from (λ z. list_any (same_section s) (row z)) _ s.z _ j.0 j.1 j.2 (list_any-map (same_section s) (λ x. record { x = x; z = s.z }) xs ∙ inner))

pub square_sorted : (n : SectionPos) (r : ℕ) → IsStrictlySortedBy section_cmp (square n r)
unfolding square
square_sorted n r = plane_sorted section_cmp (λ z x. record { x = x; z = z }) in_row row_before _ _ _ _

-- the sections near n that pass: as a list, and how many
pub near_rows : (n : SectionPos) (r : ℕ) (p : SectionPos → Bool) → ((s : SectionPos) → is_within n r s ≡ true → is_section s ≡ true)
    → (filter p (square n r) ≡ filter (λ s. p s && is_within n r s) all_sections) × (count_by p (square n r) ≡ count_sections (λ s. p s && is_within n r s))
near_rows n r p l =
    let e = section_rows_are (λ s. p s && is_within n r s) (filter p (square n r)) (IsStrictlySortedBy-filter section_cmp p (square n r) (square_sorted n r))
    (λ s. section_members p (square n r) s ∙ ap (λ b. p s && b) (square_members n r s))
    (λ s h. l s (and_parts (p s) (is_within n r s) h).1) in
    (e.0, sym (length-filter p (square n r)) ∙ e.1)
