-- What a fault says, and the words behind those that are read.
use Rattle.std.proofs.Common.{◌≡◌, ℕ, sym, ap, ◌∙◌, List, drop, Ok, Err}
use Rattle.std.specs.Prelude.{Result}
use Rattle.std.specs.Result.{OnErr}

-- what stands behind k words is known by two equations
pub step : {X : Type 0} (k : ℕ) {ws l m : List X} → ws ≡ l → ws ≡ m → drop k l ≡ drop k m
step k f e = ap (drop k) (sym f ∙ e)

-- what holds whatever the result is holds at each fault
pub on_err : {T E P : Type 0} (r : Result T E) → P → OnErr r P
on_err (Ok x) p = tt
on_err (Err e) p = p
