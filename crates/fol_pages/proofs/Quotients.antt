-- Quotients rounded down, and which numbers have the same one.
use Rattle.std.proofs.Common.{◌≡◌, ℕ, suc, ◌+◌, ◌-◌, ◌*◌, ◌<◌, ◌/◌, ◌%◌, arith, ◌∙◌, ap, mod-lt}
use Rattle.std.proofs.lemmas.Nat.{div-add-mod', div-mul-add}
use Rattle.std.specs.Prelude.{ℤ, pos, negsuc, ◌+ℤ◌, ◌*ℤ◌}
use Rattle.std.specs.Int.{int_div_euclid}
use borrow.Author.Differences.{ints}

suc_times : (q n : ℕ) → suc q * n ≡ q * n + n
suc_times q n = omega arith

-- a number is in the row of n numbers that begins at its quotient
pub in_row_of_quotient : (x : ℤ) (n : ℕ) → 0 < n → (i : ℕ) × (i < n) × (x ≡ (int_div_euclid x (pos n) *ℤ pos n) +ℤ pos i)
in_row_of_quotient (pos a) n h = let d = div-add-mod' a n in let m = mod-lt a h in (a % n, m, omega (arith, ints))
in_row_of_quotient (negsuc a) n h = let d = div-add-mod' a n in let m = mod-lt a h in let s = suc_times (a / n) n in (n - 1 - a % n, omega arith, omega (arith, ints))

-- and back
pub quotient_of_row : (x q : ℤ) (n i : ℕ) → i < n → x ≡ (q *ℤ pos n) +ℤ pos i → int_div_euclid x (pos n) ≡ q
quotient_of_row x (pos q) n i l e =
    let k : x ≡ pos (q * n + i) = omega (arith, ints) in
    ap (λ y. int_div_euclid y (pos n)) k ∙ ap pos (div-mul-add q n i l)
quotient_of_row x (negsuc q) n i l e =
    let s = suc_times q n in
    let k : x ≡ negsuc (q * n + (n - 1 - i)) = omega (arith, ints) in
    let d : n - 1 - i < n = omega arith in
    ap (λ y. int_div_euclid y (pos n)) k ∙ ap negsuc (div-mul-add q n (n - 1 - i) d)
