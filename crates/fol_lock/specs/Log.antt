-- What clauses say of a log: whose entries it has, and how it grows. `by` gives the number of the seat that gave an entry.
use Rattle.std.specs.Prelude.{◌≡◌, ℕ, ◌==◌, List, ◌++◌, All, filter}

-- the entries that the seat n gave, in order
abbrev pub given_by : {E : Type 0} → (E → ℕ) → ℕ → List E → List E
given_by by n log = filter (λ e. by e == n) log

-- the log begins with these entries
abbrev pub StartsWith : {E : Type 0} → List E → List E → Type 0
StartsWith {E} log seen = (rest : List E) × (log ≡ seen ++ rest)

-- the log goes on by entries of the seat n, or by none
pub record Extends {E : Type 0} (by : E → ℕ) (n : ℕ) (old new : List E) : Type 0 where
  pub added : List E
  pub goes_on : new ≡ old ++ added
  pub own : All (λ e. by e ≡ n) added
