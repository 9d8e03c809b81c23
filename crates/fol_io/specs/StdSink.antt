-- What contracts see of a `StdSink`.
use Rattle.std.specs.Prelude.{ℕ}

-- its count of faults, and how many pieces that are not empty it was given
pub record StdSinkState : Type 0 where
  pub faults : ℕ
  pub puts : ℕ
