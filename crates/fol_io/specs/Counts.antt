-- Counts of faults and of bytes, which a `u64` holds and which never fall.
use Rattle.std.specs.Prelude.{ℕ, ◌+◌, ◌-◌, ◌^◌, ◌≤◌, min}

-- n more than the count, or the highest number where that is higher than a count can go
abbrev pub raised : ℕ → ℕ → ℕ
raised n count = min (count + n) (2 ^ 64 - 1)

-- the count rose by n at least; one that stands at the highest number counts as risen
abbrev pub RoseBy : ℕ → ℕ → ℕ → Type 0
RoseBy n before now = raised n before ≤ now

-- the count rose
abbrev pub Rose : ℕ → ℕ → Type 0
Rose before now = RoseBy 1 before now
