-- The holds of the tasks that ran, dropped one after another.
use Rattle.std.specs.Prelude.{ℕ, ◌≡◌, ◌+◌, if◌then◌else◌, List, [], ◌∷◌}
use Rattle.fol_model.specs.declared.places.ChunkPos.{ChunkPos}
use Rattle.fol_model.specs.Geometry.{same_chunk}
use Rattle.fol_model.specs.declared.tasks.Task.{Task}
use Rattle.fol_model.specs.GridState.{GridState}
use Rattle.fol_model.specs.Drop.{drop_hold}
use Rattle.fol_model.specs.World.{World, due}
use Rattle.fol_model.specs.End.{dropped}

-- how many of the tasks are on the chunk
abbrev pub on_chunk : ChunkPos → List Task → ℕ
on_chunk c [] = 0
on_chunk c (t ∷ ts) = (if same_chunk t.chunk c then 1 else 0) + on_chunk c ts

-- a removed hold of the chunk of each task
abbrev pub drop_each : GridState → List Task → GridState
drop_each g [] = g
drop_each g (t ∷ ts) = drop_each (drop_hold g t.chunk) ts

-- the grid after the due tasks have dropped their holds in turn is that of the End
abbrev pub HoldsDropInTurn : Type 0
HoldsDropInTurn = (w : World) (r : ℕ) → drop_each w.grid (due w r) ≡ (dropped w r).grid
