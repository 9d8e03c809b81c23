-- Products by a power of two.
use Rattle.std.proofs.Common.{◌≡◌, ℕ, zero, suc, ◌*◌, ◌<◌, ◌≤◌, ◌^◌, ◌%◌, arith, refl, ◌∙◌}
use Rattle.std.specs.Prelude.{ℤ, pos, ◌*ℤ◌, nat_abs}
use mir.Val.{SFits, to_z, of_z}
use mir.Syntax.{w32}
use borrow.Author.Differences.{ints}
use Rattle.std.proofs.lemmas.Int.{to_z-of_z}

pub side_is : (shift : ℕ) → shift ≤ 5 → to_z w32 (1 * 2 ^ shift % 4294967296) ≡ pos (2 ^ shift)
side_is zero h = refl
side_is (suc zero) h = refl
side_is (suc (suc zero)) h = refl
side_is (suc (suc (suc zero))) h = refl
side_is (suc (suc (suc (suc zero)))) h = refl
side_is (suc (suc (suc (suc (suc zero))))) h = refl
side_is (suc (suc (suc (suc (suc (suc n)))))) h = absurd (omega arith)

pub row_few : (shift : ℕ) → shift ≤ 5 → 1 * 2 ^ shift % 4294967296 ≤ 32
row_few zero h = omega arith
row_few (suc zero) h = omega arith
row_few (suc (suc zero)) h = omega arith
row_few (suc (suc (suc zero))) h = omega arith
row_few (suc (suc (suc (suc zero)))) h = omega arith
row_few (suc (suc (suc (suc (suc zero))))) h = omega arith
row_few (suc (suc (suc (suc (suc (suc n)))))) h = absurd (omega arith)

pub area_is : (shift : ℕ) → shift ≤ 5 → 1 * 2 ^ (2 * shift) % 18446744073709551616 ≡ 2 ^ shift * 2 ^ shift
area_is zero h = refl
area_is (suc zero) h = refl
area_is (suc (suc zero)) h = refl
area_is (suc (suc (suc zero))) h = refl
area_is (suc (suc (suc (suc zero)))) h = refl
area_is (suc (suc (suc (suc (suc zero))))) h = refl
area_is (suc (suc (suc (suc (suc (suc n)))))) h = absurd (omega arith)

pub area_few : (shift : ℕ) → shift ≤ 5 → 2 ^ shift * 2 ^ shift ≤ 1024
area_few zero h = omega arith
area_few (suc zero) h = omega arith
area_few (suc (suc zero)) h = omega arith
area_few (suc (suc (suc zero))) h = omega arith
area_few (suc (suc (suc (suc zero)))) h = omega arith
area_few (suc (suc (suc (suc (suc zero))))) h = omega arith
area_few (suc (suc (suc (suc (suc (suc n)))))) h = absurd (omega arith)

pub product_near : (x : ℤ) (shift : ℕ) → nat_abs x ≤ 1000008 → shift ≤ 5 → nat_abs (x *ℤ pos (2 ^ shift)) ≤ 40000000
product_near x zero n h = omega (arith, ints)
product_near x (suc zero) n h = omega (arith, ints)
product_near x (suc (suc zero)) n h = omega (arith, ints)
product_near x (suc (suc (suc zero))) n h = omega (arith, ints)
product_near x (suc (suc (suc (suc zero)))) n h = omega (arith, ints)
product_near x (suc (suc (suc (suc (suc zero))))) n h = omega (arith, ints)
product_near x (suc (suc (suc (suc (suc (suc m)))))) n h = absurd (omega arith)

pub product_fits : (x : ℤ) (shift : ℕ) → nat_abs x ≤ 1000008 → shift ≤ 5 → SFits w32 (to_z w32 (of_z w32 x) *ℤ to_z w32 (1 * 2 ^ shift % 4294967296))
product_fits x shift n h =
    let f : to_z w32 (of_z w32 x) ≡ x = omega (arith, ints) in
    let s = side_is shift h in
    let near = product_near x shift n h in
    rw (f, s) (omega (arith, ints))

pub product_is : (x : ℤ) (shift : ℕ) → nat_abs x ≤ 1000008 → shift ≤ 5 → to_z w32 (of_z w32 (to_z w32 (of_z w32 x) *ℤ to_z w32 (1 * 2 ^ shift % 4294967296))) ≡ x *ℤ pos (2 ^ shift)
product_is x shift n h =
    let f : to_z w32 (of_z w32 x) ≡ x = omega (arith, ints) in
    let s = side_is shift h in
    to_z-of_z w32 _ (product_fits x shift n h) ∙ rw (f, s) refl

pub side_some : (shift : ℕ) → 0 < 2 ^ shift
side_some zero = omega arith
side_some (suc n) = omega (arith, side_some n)
