-- One tick on a flat world: the tasks in their order, and then the movement.
use Rattle.std.specs.Prelude.{ℕ, ◌<◌, ℤ, ◌+ℤ◌, ◌&&◌, if◌then◌else◌, List, [], ◌∷◌, ◌++◌, Option, Some, None}
use Rattle.fol_model.specs.Geometry.{chunk_of}
use Rattle.fol_model.specs.ActionStep.{Standing, Flat, Recorded, outcome_of, act, plain_of, wishes_of}
use Rattle.fol_model.specs.declared.places.BlockPos.{BlockPos}
use Rattle.fol_model.specs.declared.tasks.Outcome.{Outcome}
use Rattle.fol_model.specs.declared.tasks.Task.{Task}
use Rattle.fol_model.specs.declared.tasks.Ran.{Ran}
use Rattle.fol_model.specs.declared.tasks.Wish.{Wish}

-- the flat world after the tasks
abbrev pub acted : Recorded → Flat → List Task → Flat
acted rec f [] = f
acted rec f (t ∷ ts) = acted rec (act rec f (plain_of t.action)) ts

-- what each task came to; `given` are the outcomes of the loads and unloads
abbrev pub outcomes : Recorded → (ℕ → Outcome) → Flat → List Task → List Ran
outcomes rec given f [] = []
outcomes rec given f (t ∷ ts) = (record { number = t.number; outcome = outcome_of rec f (given t.number) (plain_of t.action) }) ∷ outcomes rec given (act rec f (plain_of t.action)) ts

-- what the tasks ask for
abbrev pub asked : Recorded → Flat → List Task → List Wish
asked rec f [] = []
asked rec f (t ∷ ts) = wishes_of rec f t ++ asked rec (act rec f (plain_of t.action)) ts

-- one step of an entity by its speed
abbrev pub ahead : ℤ → ℤ → BlockPos → BlockPos
ahead vx vz b = record { x = b.x +ℤ vx; y = b.y; z = b.z +ℤ vz }

-- an entity in a recorded chunk goes ahead where it stays in recorded chunks
abbrev pub walked : Recorded → Option Standing → Option Standing
walked rec None = None
walked rec (Some b) = if (rec (chunk_of b.at) && rec (chunk_of (ahead b.vx b.vz b.at))) then Some (record b { at = ahead b.vx b.vz b.at }) else Some b

abbrev pub moved : Recorded → Flat → Flat
moved rec f = record f { standing = λ id. walked rec (f.standing id) }

pub record FlatEnd : Type 0 where
  pub flat : Flat
  pub ran : List Ran
  pub wishes : List Wish

unfoldable pub flat_tick : Recorded → (ℕ → Outcome) → List Task → Flat → FlatEnd
flat_tick rec given due f = record { flat = moved rec (acted rec f due); ran = outcomes rec given f due; wishes = asked rec f due }

-- each task has a number above the ones before it
abbrev pub AllAbove : ℕ → List Task → Type 0
AllAbove n [] = Unit {0}
AllAbove n (t ∷ ts) = (n < t.number) × AllAbove n ts

abbrev pub Rising : List Task → Type 0
Rising [] = Unit {0}
Rising (t ∷ ts) = AllAbove t.number ts × Rising ts
