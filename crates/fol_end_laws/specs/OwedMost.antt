-- The greatest owed number, over a list of regions.
use Rattle.std.specs.Prelude.{ℕ, ◌≡◌, ◌<◌, Bool, true, not, ◌&&◌, nat_eq, max, List, [], ◌∷◌, filter}
use Rattle.fol_model.specs.Counting.{greatest_below}
use Rattle.fol_model.specs.Universe.{numbers_below}

-- the greatest of n and the numbers of these
abbrev pub greatest_of : (ℕ → ℕ) → ℕ → List ℕ → ℕ
greatest_of f n [] = n
greatest_of f n (r ∷ rs) = greatest_of f (max n (f r)) rs

-- it is found region by region, beginning with any one of them
abbrev pub GreatestIsFoundInTurn : Type 0
GreatestIsFoundInTurn = (p : ℕ → Bool) (f : ℕ → ℕ) (n t : ℕ) → t < n → p t ≡ true
    → greatest_of f (f t) (filter (λ r. p r && not (nat_eq t r)) (numbers_below n)) ≡ greatest_below p f n
