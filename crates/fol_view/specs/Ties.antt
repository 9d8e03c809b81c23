-- The rule of the two copies: who knows a history of publications knows that of the board.
use Rattle.std.specs.Prelude.{◌≡◌, ℕ, List, Option, Some, None}
use mathlib.Core.Option.{some}
use lib.ListN.{get_elem?}
use Rattle.fol_view.specs.Boards.{Showing}
use Rattle.fol_view.specs.Publications.{Listed}

abbrev pub Ties : Option Showing → Option Listed → Type 0
Ties x None = Unit {0}
Ties None (Some l) = ⊥
Ties (Some q) (Some l) = q.book ≡ l.book

abbrev pub Tied : Option Showing → List (Option Listed) → Type 0
Tied x views = (seat : ℕ) (v : Option Listed) → get_elem? views seat ≡ some v → Ties x v
