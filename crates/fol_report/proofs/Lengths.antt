-- How many digits a number has at most.
use Rattle.std.proofs.Common.{ℕ, ◌<◌, ◌≤◌, ◌^◌, arith, decimal, length}
use Rattle.std.proofs.lemmas.Fmt.{length-decimal-le}

pub twenty_digits : (n : ℕ) → n < 2 ^ 64 → length (decimal n) ≤ 20
twenty_digits n h = length-decimal-le 20 n (omega arith) (omega (arith, h)) h

pub ten_digits : (n : ℕ) → n < 2 ^ 32 → length (decimal n) ≤ 10
ten_digits n h = length-decimal-le 10 n (omega arith) (omega (arith, h)) (omega (arith, h))
