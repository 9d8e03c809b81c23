-- Lists of which no two elements tie.
use Rattle.std.specs.Prelude.{◌≡◌, List, Contains}
use Rattle.std.specs.declared.cmp.Ordering.{Ordering}
use Rattle.std.specs.declared.cmp.Ordering.TheVariants.{Equal}

-- no element of the first ties with one of the second
abbrev pub Untied : {X : Type 0} → (X → X → Ordering) → List X → List X → Type 0
Untied {X} cmp xs ys = (x y : X) → Contains xs x → Contains ys y → cmp x y ≡ Equal → ⊥
