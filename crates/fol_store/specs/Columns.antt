-- The first of several things.
use Rattle.std.specs.Prelude.{List, [], ◌∷◌, Option, None}
use Rattle.std.specs.Option.{option_or}

-- what the first of a list has that has something
abbrev pub first : {P X : Type 0} → (P → Option X) → List P → Option X
first f [] = None
first f (x ∷ xs) = option_or (f x) (first f xs)
