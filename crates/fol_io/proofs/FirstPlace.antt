-- The first element of a list that passes a test, and its place.
use Rattle.std.proofs.Common.{◌≡◌, ℕ, ◌<◌, Bool, true, List, length, get_or, Some, None, sym, arith}
use Rattle.std.specs.List.{find, position, position_or_len}
use Rattle.std.proofs.lemmas.List.Folds.{find_at}
use Rattle.std.proofs.lemmas.List.Sums.{position_or_len_is}
use Rattle.std.proofs.lemmas.List.Quantifiers.{position-Some}
use Rattle.std.proofs.lemmas.Option.{slice_get-get_or, slice_get_past}

-- the place that `position` gives is the first, and the element there passes
pub record IsFirstPlace {X : Type 0} (p : X → Bool) (xs : List X) (i : ℕ) (d : X) : Type 0 where
  pub first : i ≡ position_or_len p xs
  pub within : i < length xs
  pub passes : p (get_or xs i d) ≡ true

pub IsFirstPlace-position : {X : Type 0} (p : X → Bool) (xs : List X) (i : ℕ) (d : X) → position p xs ≡ Some i → IsFirstPlace p xs i d
IsFirstPlace-position p xs i d at =
    let found = position-Some p xs i d at in
    record { first = sym (position_or_len_is p xs i d (omega (arith, found.0)) found.2 (λ _. found.1)); within = found.0; passes = found.1 }

-- the element at that place is the one that `find` gives
pub find-position : {X : Type 0} (p : X → Bool) (xs : List X) (i : ℕ) (d : X) → position p xs ≡ Some i → find p xs ≡ Some (get_or xs i d)
find-position p xs i d at =
    let found = IsFirstPlace-position p xs i d at in
    rw (find_at p xs, ← found.first) (slice_get-get_or xs i d found.within)

-- with no place there is no such element
pub find-no_position : {X : Type 0} (p : X → Bool) (xs : List X) → position p xs ≡ None → find p xs ≡ None
find-no_position p xs none = grind (arith, find_at, slice_get_past)
