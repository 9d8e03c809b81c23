-- Begins in turn: each one is of a worker that has no tick open.
use Rattle.std.specs.Prelude.{ℕ, ◌≡◌, List, ◌∷◌, ◌++◌}
use Rattle.fol_model.specs.declared.events.Entry.{Entry}
use Rattle.fol_model.specs.declared.events.Event.TheVariants.{Begin}
use Rattle.fol_model.specs.OpenTick.{NoEnd}

-- worker k has no tick open after the history: behind each Begin of it there is an End of that region
abbrev pub NoneOpen : ℕ → List Entry → Type 0
NoneOpen k h = (before : List Entry) (e : Entry) (since : List Entry) (r : ℕ) → h ≡ before ++ e ∷ since → e.event ≡ Begin k r → NoEnd r since → ⊥

-- each Begin is of a worker that has no tick open
abbrev pub AreInTurn : List Entry → Type 0
AreInTurn h = (before : List Entry) (e : Entry) (after : List Entry) (k r : ℕ) → h ≡ before ++ e ∷ after → e.event ≡ Begin k r → NoneOpen k before
