-- Histories that are cut in two.
use Rattle.std.proofs.Common.{◌≡◌, ℕ, refl, inl, inr, List, [], ◌∷◌, ◌++◌}
use Rattle.std.specs.Prelude.{◌⊎◌}
use Rattle.std.specs.List.{AllByRecursion}
use Rattle.fol_model.specs.declared.events.Entry.{Entry}
use Rattle.fol_model.specs.OpenTick.{NoEnd}

-- what holds of all holds of the first and of the rest
pub all_before : (P : Entry → Type 0) (xs ys : List Entry) → AllByRecursion P (xs ++ ys) → AllByRecursion P xs
all_before P [] ys all = tt
all_before P (x ∷ xs) ys all = (all.0, all_before P xs ys all.1)

pub all_behind : (P : Entry → Type 0) (xs ys : List Entry) → AllByRecursion P (xs ++ ys) → AllByRecursion P ys
all_behind P [] ys all = all
all_behind P (x ∷ xs) ys all = all_behind P xs ys all.1

pub none_before : (r : ℕ) (xs ys : List Entry) → NoEnd r (xs ++ ys) → NoEnd r xs
none_before r [] ys none = tt
none_before r (x ∷ xs) ys none = (none.0, none_before r xs ys none.1)

-- an entry b, behind zs and before since, stands in the first part, xs, or in the second, ys
pub record InFirst (xs ys zs : List Entry) (b : Entry) (since : List Entry) : Type 0 where
  pub between : List Entry
  pub first : xs ≡ zs ++ b ∷ between
  pub behind : since ≡ between ++ ys

pub record InSecond (xs ys zs : List Entry) (b : Entry) (since : List Entry) : Type 0 where
  pub between : List Entry
  pub ahead : zs ≡ xs ++ between
  pub second : ys ≡ between ++ b ∷ since

pub stands : (xs ys zs : List Entry) (b : Entry) (since : List Entry) → xs ++ ys ≡ zs ++ b ∷ since → InFirst xs ys zs b since ⊎ InSecond xs ys zs b since
stands [] ys zs b since is = inr (record { between = zs; ahead = refl; second = is })
stands (x ∷ xs) ys [] b since is = inl (record { between = xs; first = cc; behind = cc })
stands (x ∷ xs) ys (z ∷ zs) b since is = elim (stands xs ys zs b since (cc)) [
  | inl s ↦ let first = s.first in inl (record { between = s.between; first = cc; behind = s.behind })
  | inr s ↦ let ahead = s.ahead in inr (record { between = s.between; ahead = cc; second = s.second })
]
