-- Who recorded an entry changes nothing.
use Rattle.std.specs.Prelude.{◌≡◌, List, [], ◌∷◌}
use Rattle.fol_model.specs.declared.openings.Opening.{Opening}
use Rattle.fol_model.specs.declared.events.Entry.{Entry}
use Rattle.fol_model.specs.Run.{Run, world}

-- the same events one by one
abbrev pub SameEvents : List Entry → List Entry → Type 0
SameEvents [] [] = Unit {0}
SameEvents (x ∷ xs) (y ∷ ys) = (x.event ≡ y.event) × SameEvents xs ys
SameEvents _ _ = ⊥

-- two histories that differ only in who recorded are both runs or none is, and lead to one world
abbrev pub ByIsNotRead : Type 0
ByIsNotRead = (o : Opening) (xs ys : List Entry) → SameEvents xs ys → Run o xs → Run o ys × (world o ys ≡ world o xs)
