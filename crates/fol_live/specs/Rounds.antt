-- The slots in the order in which they are tried.
use Rattle.std.specs.Prelude.{ℕ, ◌-◌, List, ◌++◌}
use Rattle.std.specs.List.{range_with_len}

-- all numbers from the first on, below the end
abbrev pub numbers_from : ℕ → ℕ → List ℕ
numbers_from first end = range_with_len first (end - first)

-- all numbers below the count, from one of them on, and then those before it
abbrev pub round : ℕ → ℕ → List ℕ
round from count = numbers_from from count ++ numbers_from 0 from
