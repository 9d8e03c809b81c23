-- The place at which a text begins that ends with a row of bytes.
use Rattle.std.specs.Prelude.{ℕ, ◌≤◌, ◌≡◌, List, drop, length, IsAscii}

-- the text from this place on has no byte beyond ASCII
pub record IsTail (start : ℕ) (bytes : List ℕ) : Type 0 where
  pub within : start ≤ length bytes
  pub room : length bytes ≡ 80
  pub ascii : IsAscii (drop start bytes)
