-- Tasks in order of number.
use Rattle.std.proofs.Common.{◌≡◌, ℕ, suc, ◌<◌, ◌≤◌, true, false, List, [], ◌∷◌, length, get_or, arith}
use Rattle.std.specs.Prelude.{nat_eq}
use Rattle.std.specs.List.{IsDistinct, AllByRecursion}
use Rattle.std.specs.List.Sorted.{IsNonDecreasingBy}
use Rattle.std.proofs.lemmas.Bool.{eqb-false}
use Rattle.std.specs.Cmp.{nat_eq_equiv}
use Rattle.fol_model.specs.declared.tasks.Task.{Task}
use Rattle.fol_model.specs.FlatTick.{Rising, AllAbove}

pub nat_self : (n : ℕ) → nat_eq n n ≡ true
nat_self n = nat_eq_equiv.refl n

abbrev pub Apart : List Task → Type 0
Apart ts = IsDistinct (λ a b. nat_eq a.number b.number) ts

-- tasks that do not fall and have numbers that differ rise
pub rising_from_sorted : (ts : List Task) → Apart ts → IsNonDecreasingBy (λ (t : Task). t.number) ts → Rising ts
unfolding IsDistinct
rising_from_sorted [] d h = tt
rising_from_sorted (t ∷ ts) d h = (above t ts d.0 (λ k e l. h 0 (suc k) e (omega arith) (omega arith)), rising_from_sorted ts d.1 (λ i j e l m. h (suc i) (suc j) e (omega arith) (omega arith)))
  where
    above : (t : Task) (ts : List Task) → AllByRecursion (λ z. nat_eq t.number z.number ≡ false) ts → ((k : ℕ) (e : Task) → k < length ts → t.number ≤ (get_or ts k e).number) → AllAbove t.number ts
    above t [] d h = tt
    above t (u ∷ us) d h =
        let l : t.number ≤ u.number = h 0 u (omega arith) in
        let n : t.number ≡ u.number → ⊥ = eqb-false t.number u.number d.0 in
        (omega arith, above t us d.1 (λ k e m. h (suc k) e (omega arith)))
