-- What the workers have in their hands: what lies in the recorded chunks of the open ticks, and the tasks that were queued there at
-- the Begin. All else is at rest.
use Rattle.std.specs.Prelude.{ℕ, Bool, not, ◌&&◌, nat_eq, nat_lt, if◌then◌else◌, List, [], ◌∷◌, Option, Some, None}
use Rattle.fol_model.specs.declared.places.ChunkPos.{ChunkPos}
use Rattle.fol_model.specs.declared.openings.Opening.{Opening}
use Rattle.fol_model.specs.declared.events.Event.{Event}
use Rattle.fol_model.specs.declared.events.Event.TheVariants.{Begin}
use Rattle.fol_model.specs.declared.events.Entry.{Entry}
use Rattle.fol_model.specs.Geometry.{section_of}
use Rattle.fol_model.specs.GridState.{GridState, is_dead, is_ticking}
use Rattle.fol_model.specs.ActionStep.{Recorded, at_id}
use Rattle.fol_model.specs.Job.{Job}
use Rattle.fol_model.specs.World.{World, start}
use Rattle.fol_model.specs.Run.{after}

-- the region of a chunk's section
abbrev pub owner_of : GridState → ChunkPos → ℕ
owner_of g c = g.owner (section_of g.grid c)

-- the region that ticks there, and 0 where none does
unfoldable pub ticker : GridState → ChunkPos → ℕ
ticker g c = if is_ticking (g.state (owner_of g c)) then owner_of g c else 0

-- the region lives and does not tick
abbrev pub rests : GridState → ℕ → Bool
rests g r = not (is_dead (g.state r)) && not (is_ticking (g.state r))

-- an open tick has recorded the chunk
unfoldable pub in_hands : GridState → (ℕ → Recorded) → Recorded
in_hands g recorded c = nat_lt 0 (ticker g c) && recorded (ticker g c) c

-- the number of the next task at the last Begin of each region
abbrev pub since_after : (ℕ → ℕ) → World → Event → ℕ → ℕ
since_after f w (Begin worker r) = at_id f r w.next_job
since_after f w _ = f

abbrev pub since_from : World → (ℕ → ℕ) → List Entry → ℕ → ℕ
since_from w f [] = f
since_from w f (e ∷ es) = since_from (after w e.event) (since_after f w e.event) es

abbrev pub since : Opening → List Entry → ℕ → ℕ
since o h = since_from (start o) (λ r. 0) h

-- the task went with an open tick
unfoldable pub went : GridState → (ℕ → ℕ) → ChunkPos → ℕ → Bool
went g since c n = nat_lt 0 (ticker g c) && nat_lt n (since (ticker g c))

-- a queued task that did not go with an open tick
abbrev pub at_rest : GridState → (ℕ → ℕ) → ℕ → Option Job → Option Job
at_rest g since n None = None
at_rest g since n (Some j) = if (nat_eq j.taker 0 && not (went g since j.chunk n)) then Some j else None
