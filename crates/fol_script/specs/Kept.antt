-- What was told of each key, as a list.
use Rattle.std.specs.Prelude.{◌≡◌, Bool, cond, List, ◌++◌, is_some, Some}
use Rattle.std.specs.List.{AllByRecursion}
use Rattle.std.specs.declared.cmp.Ordering.{Ordering}
use Rattle.std.specs.declared.cmp.Ordering.TheVariants.{Less}
use Rattle.std.specs.List.Sorted.{IsStrictlySortedBy}
use Rattle.std.specs.BTreeMap.{insert_entry, is_at}
use Rattle.std.specs.Map.{lookup, keys_of}
use Rattle.fol_script.specs.declared.kept.Kept.{Kept}

-- the entries in the order of their keys
abbrev pub entries_in : {K X : Type 0} → Kept K X → List (K × X)
entries_in kept = kept.rising.items ++ kept.mixed.entries

-- each key of these entries is below this one
abbrev pub AllBelow : {K X : Type 0} → (K → K → Ordering) → List (K × X) → K → Type 0
AllBelow R es k = AllByRecursion (λ p. R p k ≡ Less) (keys_of es)

-- the old entries with this value at this key; `stood` says whether the key was among them
pub record Keeps {K X : Type 0} (R : K → K → Ordering) (old new : List (K × X)) (k : K) (v : X) (told : Bool) : Type 0 where
  pub stood : told ≡ is_some (lookup (is_at (R k)) old)
  pub entries : new ≡ insert_entry R old k v
  pub updates : (q : K) → lookup (is_at (R q)) new ≡ cond (is_at (R k) q) (Some v) (lookup (is_at (R q)) old)
  pub ordered : IsStrictlySortedBy R (keys_of new)
