-- Tests and counts over the numbers below a number.
use Rattle.std.specs.Prelude.{ℕ, zero, suc, ◌+◌, Bool, false, ◌||◌, cond, max, if◌then◌else◌}

-- some number below n passes
unfoldable pub some_below : (ℕ → Bool) → ℕ → Bool
some_below p zero = false
some_below p (suc n) = p n || some_below p n

-- the least number below n that passes, or n
unfoldable pub least : (ℕ → Bool) → ℕ → ℕ
least p zero = zero
least p (suc n) = if some_below p n then least p n else (if p n then n else suc n)

-- how many numbers below n pass
unfoldable pub count_below : (ℕ → Bool) → ℕ → ℕ
count_below p zero = 0
count_below p (suc n) = cond (p n) 1 0 + count_below p n

-- the greatest number of those below n that pass, or 0
unfoldable pub greatest_below : (ℕ → Bool) → (ℕ → ℕ) → ℕ → ℕ
greatest_below p f zero = 0
greatest_below p f (suc n) = max (if p n then f n else 0) (greatest_below p f n)
