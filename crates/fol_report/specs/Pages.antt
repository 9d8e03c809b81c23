-- A text at the start of a row of bytes.
use Rattle.std.specs.Prelude.{ℕ, ◌≤◌, ◌≡◌, List, take, length, IsAscii}

-- no byte of so many is beyond ASCII
pub record IsPage (len : ℕ) (bytes : List ℕ) : Type 0 where
  pub within : len ≤ 1024
  pub room : length bytes ≡ 1024
  pub ascii : IsAscii (take len bytes)
