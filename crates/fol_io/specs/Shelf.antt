-- What a shelf that tells holds, and what one that does not tell took.
use Rattle.std.specs.Prelude.{ℕ, ◌≡◌, ◌+◌, ◌<◌, List, length, Option, Some, None}
use Rattle.fol_io.specs.Counts.{RoseBy}

-- these are the bytes held, where the shelf tells them
abbrev pub IsHeld : Option (List ℕ) → List ℕ → Type 0
IsHeld (Some held) bytes = bytes ≡ held
IsHeld None bytes = Unit {0}

-- more than `limit` bytes are held, or, where the shelf does not tell, so many were taken meanwhile
abbrev pub IsTooLong : Option (List ℕ) → ℕ → ℕ → ℕ → Type 0
IsTooLong (Some held) limit before now = limit < length held
IsTooLong None limit before now = RoseBy (limit + 1) before now
