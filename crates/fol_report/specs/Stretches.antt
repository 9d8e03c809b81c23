-- The text of a worker and a region at the start of a row of bytes.
use Rattle.std.specs.Prelude.{ℕ, ◌≤◌, ◌≡◌, ◌∷◌, ◌++◌, List, decimal, length, take}

pub record IsStretch (worker region len : ℕ) (bytes : List ℕ) : Type 0 where
  pub within : len ≤ 32
  pub room : length bytes ≡ 32
  pub text : take len bytes ≡ decimal worker ++ 32 ∷ decimal region
