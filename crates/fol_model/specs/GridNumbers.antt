-- The numbers of a grid, and their limits.
use Rattle.std.specs.Prelude.{ℕ, ◌≤◌}

pub record GridNumbers : Type 0 where
  -- a section has 2^shift by 2^shift chunks
  pub shift : ℕ
  -- a loaded chunk needs all sections this far around its own
  pub create : ℕ
  -- sections this far apart, or less, belong together
  pub merge : ℕ
  -- a smaller region is not cleaned for its share of dead sections
  pub min : ℕ
  -- the share of dead sections from which on a region is cleaned: num / den
  pub num : ℕ
  pub den : ℕ

abbrev pub numbers : ℕ → ℕ → ℕ → ℕ → ℕ → ℕ → GridNumbers
numbers shift create merge min num den = record { shift = shift; create = create; merge = merge; min = min; num = num; den = den }

-- the numbers are within their limits
pub record IsGrid (grid : GridNumbers) : Type 0 where
  pub shift : grid.shift ≤ 5
  pub create_low : 1 ≤ grid.create
  pub create_high : grid.create ≤ 8
  pub merge_low : 1 ≤ grid.merge
  pub merge_high : grid.merge ≤ 4
  pub min_low : 1 ≤ grid.min
  pub min_high : grid.min ≤ 16384
  pub num : grid.num ≤ 1000
  pub den_low : 1 ≤ grid.den
  pub den_high : grid.den ≤ 1000
