-- The labels of bags. Contracts see them as a list: `numbered` gives the bag whose label a number is.
use Rattle.std.specs.Prelude.{ℕ, ◌≡◌, nat_eq, if◌then◌else◌, List, slice_index_or}

-- the number that stands in the list for this one; past its end each number stands for itself
abbrev pub numbered : List ℕ → ℕ → ℕ
numbered numbers n = slice_index_or numbers n n

-- `a` becomes `b`, and the other way round; all else stays
abbrev pub swapped : ℕ → ℕ → ℕ → ℕ
swapped a b n = if nat_eq n a then b else (if nat_eq n b then a else n)

-- each of the two undoes the other
pub record AreInverse (f g : ℕ → ℕ) : Type 0 where
  pub back : (n : ℕ) → g (f n) ≡ n
  pub forth : (n : ℕ) → f (g n) ≡ n
