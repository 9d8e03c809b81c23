-- A list that was parted by a test.
use Rattle.std.specs.Prelude.{◌≡◌, Bool, true, false, List, ◌++◌, All}
use Rattle.std.specs.List.Sorted.{IsPermutation}

-- what passes was moved, and what does not pass is left
pub record Parted {X : Type 0} (p : X → Bool) (xs left moved : List X) : Type 0 where
  pub all : IsPermutation xs (moved ++ left)
  pub yes : All (λ x. p x ≡ true) moved
  pub no : All (λ x. p x ≡ false) left
