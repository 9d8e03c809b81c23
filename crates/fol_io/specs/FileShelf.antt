-- What contracts see of a `FileShelf`.
use Rattle.std.specs.Prelude.{ℕ}

-- its one count of faults, how many bytes it took, and how often it was read
pub record FileShelfState : Type 0 where
  pub faults : ℕ
  pub taken : ℕ
  pub reads : ℕ
