-- A loop that copies what passes: there is room for one more.
use Rattle.std.proofs.Common.{◌≡◌, ℕ, ◌+◌, ◌<◌, ◌≤◌, Bool, true, cond, List, ◌++◌, length, get_or, take, arith, length-append}
use Rattle.std.specs.List.{filter, count_by}
use Rattle.std.proofs.lemmas.List.Sums.{length-filter, count_by_more_yes, sum_by-take-le}

pub room_for_more : {X : Type 0} (p : X → Bool) (xs old new : List X) (i : ℕ) (d : X) → i < length xs → p (get_or xs i d) ≡ true → new ≡ old ++ filter p (take i xs) → length new + 1 ≤ length old + count_by p xs
room_for_more p xs old new i d l t e =
    rw (e, length-append old (filter p (take i xs)), length-filter p (take i xs))
    (omega (arith, count_by_more_yes p xs i d l t, sum_by-take-le (λ x. cond (p x) 1 0) xs (i + 1)))
