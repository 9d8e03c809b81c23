-- What contracts see of a `MemSink`.
use Rattle.std.specs.Prelude.{ℕ, ◌≢◌, ◌+◌, ◌<◌, ◌⊎◌, List, [], length, Contains}
use Rattle.fol_io.specs.Counts.{raised}

-- what it received and how many bytes may stand there, the numbers of the puts that fail, how many puts of
-- a piece that is not empty there were, and how many of them failed
pub record MemSinkState : Type 0 where
  pub bytes : List ℕ
  pub room : ℕ
  pub failing : List ℕ
  pub puts : ℕ
  pub faults : ℕ

-- the next put, of this piece, fails: by its number, or since the piece does not fit
abbrev pub FailsAt : MemSinkState → List ℕ → Type 0
FailsAt s piece =
    (piece ≢ []) × (Contains s.failing (raised 1 s.puts) ⊎ (s.room < length s.bytes + length piece))
