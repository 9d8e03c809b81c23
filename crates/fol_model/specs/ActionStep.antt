-- What one action does to blocks and entities, given the recorded chunks.
use Rattle.std.specs.Prelude.{ℕ, ℤ, Bool, false, ◌&&◌, nat_eq, nat_le, if◌then◌else◌, List, [], ◌∷◌, ◌++◌, ◌-◌, Option, Some, None}
use Rattle.fol_model.specs.declared.places.ChunkPos.{ChunkPos}
use Rattle.fol_model.specs.Nesting.{action_of}
use Rattle.fol_model.specs.Geometry.{chunk_of, same_block}
use Rattle.fol_model.specs.declared.places.BlockPos.{BlockPos}
use Rattle.fol_model.specs.declared.entities.Entity.{Entity}
use Rattle.fol_model.specs.declared.tasks.Outcome.{Outcome}
use Rattle.fol_model.specs.declared.tasks.Outcome.TheVariants.{Done, Foreign, Absent}
use Rattle.fol_model.specs.declared.actions.Action.{Action}
use Rattle.fol_model.specs.declared.actions.Action.TheVariants.{Set, Copy, Load, Unload, Post, Send, Arrive, Every}
use Rattle.fol_model.specs.declared.tasks.Task.{Task}
use Rattle.fol_model.specs.declared.tasks.Wish.{Wish}

-- an entity that stands at a block
pub record Standing : Type 0 where
  pub at : BlockPos
  pub vx : ℤ
  pub vz : ℤ

-- the number of each block, and the entity of each id that stands somewhere
pub record Flat : Type 0 where
  pub blocks : BlockPos → ℕ
  pub standing : ℕ → Option Standing

-- the recorded chunks
abbrev pub Recorded : Type 0
Recorded = ChunkPos → Bool

-- the entity stands at a block of a recorded chunk
abbrev pub stands : Recorded → Option Standing → Bool
stands rec None = false
stands rec (Some b) = rec (chunk_of b.at)

-- the action without the `Every` round it
abbrev pub plain_of : Action → Action
plain_of (Every period left inner) = action_of inner
plain_of a = a

abbrev pub outcome_of : Recorded → Flat → Outcome → Action → Outcome
outcome_of rec f given (Set at id) = if rec (chunk_of at) then Done else Foreign
outcome_of rec f given (Copy at to) = if (rec (chunk_of at) && rec (chunk_of to)) then Done else Foreign
outcome_of rec f given (Load c) = given
outcome_of rec f given (Unload c) = given
outcome_of rec f given (Post c d inner) = Done
outcome_of rec f given (Send id to) = if stands rec (f.standing id) then Done else Absent
outcome_of rec f given (Arrive e) = Done
outcome_of rec f given (Every p left inner) = Done

abbrev pub at_block : (BlockPos → ℕ) → BlockPos → ℕ → BlockPos → ℕ
at_block f b n q = if same_block b q then n else f q

abbrev pub at_id : {X : Type 0} → (ℕ → X) → ℕ → X → ℕ → X
at_id f k x q = if nat_eq k q then x else f q

abbrev pub blocks_after : Recorded → (BlockPos → ℕ) → Action → BlockPos → ℕ
blocks_after rec f (Set at id) = if rec (chunk_of at) then at_block f at id else f
blocks_after rec f (Copy at to) = if (rec (chunk_of at) && rec (chunk_of to)) then at_block f to (f at) else f
blocks_after rec f _ = f

abbrev pub standing_of : Entity → Standing
standing_of e = record { at = e.at; vx = e.vx; vz = e.vz }

abbrev pub standing_after : Recorded → (ℕ → Option Standing) → Action → ℕ → Option Standing
standing_after rec f (Send id to) = if stands rec (f id) then at_id f id None else f
standing_after rec f (Arrive e) = at_id f e.id (Some (standing_of e))
standing_after rec f _ = f

abbrev pub act : Recorded → Flat → Action → Flat
act rec f a = record { blocks = blocks_after rec f.blocks a; standing = standing_after rec f.standing a }

-- an entity that leaves its block asks to arrive
abbrev pub departs : Recorded → ℕ → BlockPos → Option Standing → List Wish
departs rec id to None = []
departs rec id to (Some b) =
    if rec (chunk_of b.at) then (record { chunk = chunk_of to; delay = 1; action = Arrive (record { id = id; at = to; vx = b.vx; vz = b.vz }); back = Some b.at }) ∷ [] else []

abbrev pub plain_wishes : Recorded → Flat → Action → List Wish
plain_wishes rec f (Post c d inner) = (record { chunk = c; delay = d; action = action_of inner; back = None }) ∷ []
plain_wishes rec f (Send id to) = departs rec id to (f.standing id)
plain_wishes rec f _ = []

-- the task again, on its own chunk, one time fewer
abbrev pub repeats : ChunkPos → Action → List Wish
repeats c (Every period left inner) = if nat_le 2 left then (record { chunk = c; delay = period; action = Every period (left - 1) inner; back = None }) ∷ [] else []
repeats c _ = []

abbrev pub wishes_of : Recorded → Flat → Task → List Wish
wishes_of rec f t = plain_wishes rec f (plain_of t.action) ++ repeats t.chunk t.action
