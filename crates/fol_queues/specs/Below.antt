-- How many tasks pass a test at a place of a heap and below it.
use Rattle.std.specs.Prelude.{ℕ, zero, suc, ◌+◌, ◌*◌, Bool, List, count_by}
use Rattle.std.specs.Prelude.{take, drop}

-- at the place i and below it, down to so many levels; the children of i are at 2 i + 1 and 2 i + 2
unfoldable pub passing_below : {X : Type 0} → (X → Bool) → List X → ℕ → ℕ → ℕ
passing_below p xs zero i = 0
passing_below p xs (suc levels) i = count_by p (take 1 (drop i xs)) + passing_below p xs levels (2 * i + 1) + passing_below p xs levels (2 * i + 2)
