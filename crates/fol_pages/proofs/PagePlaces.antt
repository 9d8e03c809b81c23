-- Sections in pages, and their places there.
use Rattle.std.proofs.Common.{◌≡◌, ℕ, ◌+◌, ◌<◌, ◌≤◌, ◌/◌, ◌%◌, refl, sym, ◌∙◌, arith, true}
use Rattle.std.specs.Prelude.{ℤ, pos, negsuc, ◌+ℤ◌, ◌-ℤ◌, ◌*ℤ◌, nat_abs}
use Rattle.std.specs.Int.{int_div_euclid, int_rem_euclid}
use Rattle.std.specs.Ordering.{int_eq}
use Rattle.std.proofs.lemmas.Bool.{and_parts, and_from}
use Rattle.std.proofs.lemmas.Bool.Decides.{Decides-int_eq}
use borrow.Author.Differences.{ints}
use Rattle.fol_model.specs.declared.places.SectionPos.{SectionPos}
use Rattle.fol_pages.specs.Pages.{is_same, page_of, place_of}
use Rattle.fol_pages.proofs.Quotients.{in_row_of_quotient, quotient_of_row}

-- a number by its page and its place in a row of the page
pub in_page : (x : ℤ) → (x ≡ (int_div_euclid x (pos 32) *ℤ pos 32) +ℤ pos (nat_abs (int_rem_euclid x (pos 32)))) × (nat_abs (int_rem_euclid x (pos 32)) < 32)
in_page (pos a) = (omega (arith, ints), omega arith)
in_page (negsuc a) = (omega (arith, ints), omega arith)

pub place_few : (s : SectionPos) → place_of s < 32
unfolding place_of
place_few s = (in_page s.x).1

-- two sections at one place of one page are one
pub place_tells : (s q : SectionPos) → page_of s.x ≡ page_of q.x → s.z ≡ q.z → place_of q ≡ place_of s → s ≡ q
unfolding place_of
place_tells s q ex ez e =
    let sx = in_page s.x in let qx = in_page q.x in
    let x : s.x ≡ q.x = sx.0 ∙ (λ i. (ex i *ℤ pos 32) +ℤ pos (sym e i)) ∙ sym qx.0 in
    λ i. record { x = x i; z = ez i }

-- ---- pages by column and row
pub same_place : (x z a b : ℤ) → is_same x z a b ≡ true → (x ≡ a) × (z ≡ b)
unfolding is_same
same_place x z a b h =
    let p = and_parts (int_eq x a) (int_eq z b) h in
    ((Decides-int_eq x a).0 p.0, (Decides-int_eq z b).0 p.1)

pub same_self : (x z : ℤ) → is_same x z x z ≡ true
unfolding is_same
same_self x z = and_from _ _ ((Decides-int_eq x x).1 refl) ((Decides-int_eq z z).1 refl)

-- numbers at most r away from x lie in two pages
pub page_near : (x y : ℤ) (r : ℕ) → nat_abs (x -ℤ y) ≤ r → r ≤ 8 → (i : ℕ) × (i < 2) × (page_of y ≡ page_of (x -ℤ pos r) +ℤ pos i)
page_near x y r d h =
    let w : ℤ = x -ℤ pos r in
    let k : ℕ = nat_abs (y -ℤ w) in
    let a = in_row_of_quotient w 32 (omega arith) in
    let at : y ≡ ((page_of w +ℤ pos ((a.0 + k) / 32)) *ℤ pos 32) +ℤ pos ((a.0 + k) % 32) = omega (arith, ints, a.2) in
    ((a.0 + k) / 32, omega (arith, ints, a.1), quotient_of_row y (page_of w +ℤ pos ((a.0 + k) / 32)) 32 ((a.0 + k) % 32) (omega arith) at)

-- and are seventeen
pub row_near : (x y : ℤ) (r : ℕ) → nat_abs (x -ℤ y) ≤ r → r ≤ 8 → (i : ℕ) × (i < 17) × (y ≡ (x -ℤ pos r) +ℤ pos i)
row_near x y r d h = (nat_abs (y -ℤ (x -ℤ pos r)), omega (arith, ints, d), omega (arith, ints, d))
