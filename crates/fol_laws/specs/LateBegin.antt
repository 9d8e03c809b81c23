-- A Begin of a region that no event touches meanwhile is the same later.
use Rattle.std.specs.Prelude.{ℕ, ◌≡◌, Bool, true, false, not, ◌||◌, ◌&&◌, nat_eq, nat_lt, List, [], ◌∷◌, ◌++◌}
use Rattle.fol_model.specs.declared.places.ChunkPos.{ChunkPos}
use Rattle.fol_model.specs.declared.tasks.Wish.{Wish}
use Rattle.fol_model.specs.declared.openings.Opening.{Opening}
use Rattle.fol_model.specs.declared.events.Event.{Event}
use Rattle.fol_model.specs.declared.events.Event.TheVariants.{Load, Unload, Post, Begin, End, Stop}
use Rattle.fol_model.specs.declared.events.Entry.{Entry}
use Rattle.fol_model.specs.GridNumbers.{IsGrid}
use Rattle.fol_model.specs.Geometry.{section_of}
use Rattle.fol_model.specs.GridState.{GridState, is_loaded}
use Rattle.fol_model.specs.Add.{is_full, wanted, is_near}
use Rattle.fol_model.specs.ActionStep.{Recorded}
use Rattle.fol_model.specs.World.{World, due}
use Rattle.fol_model.specs.QueuedTask.{begun, queued_in}
use Rattle.fol_model.specs.End.{ticked, run_down, accepted}
use Rattle.fol_model.specs.Run.{after, after_all, Allowed, Run, world}
use Rattle.fol_laws.specs.Contents.{SameOn}
use Rattle.fol_laws.specs.Steps.{SameSections}

-- the chunks in sections of r
abbrev pub ground : GridState → ℕ → Recorded
ground g r c = nat_eq (g.owner (section_of g.grid c)) r

-- an Add on the chunk is not Full and wants a section, and r is near: r becomes part of the target, or is awaited by it
abbrev pub draws_in : GridState → ChunkPos → ℕ → Bool
draws_in g c r = not (is_full g c) && (not (nat_eq (wanted g c) 0) && is_near g c r)

-- an Add on the chunk draws r in, or makes it one more loaded chunk of r
abbrev pub load_touches : GridState → ChunkPos → ℕ → Bool
load_touches g c r = draws_in g c r || (not (is_full g c) && (ground g r c && not (is_loaded g c)))

-- an Add on the chunk draws r in, or r gets the task
abbrev pub post_touches : GridState → ChunkPos → ℕ → Bool
post_touches g c r = draws_in g c r || (not (is_full g c) && ground g r c)

-- the last hold of a chunk of r falls
abbrev pub unload_touches : World → ChunkPos → ℕ → Bool
unload_touches w c r = ground w.grid r c && (nat_lt 0 (w.tickets c) && nat_eq (w.grid.holds c) 1)

-- one of the wishes, accepted one after another, touches r
abbrev pub wishes_touch : World → List Wish → ℕ → Bool
wishes_touch w [] r = false
wishes_touch w (x ∷ xs) r = post_touches w.grid x.chunk r || wishes_touch (accepted w x) xs r

-- the event is of r's own tick, or changes its sections, its loaded chunks or its queued tasks, or draws it in
abbrev pub touches : World → ℕ → Event → Bool
touches w r (Load caller c answer) = load_touches w.grid c r
touches w r (Unload caller c answer) = unload_touches w c r
touches w r (Post caller c d a answer) = post_touches w.grid c r
touches w r (Begin worker q) = nat_eq q r
touches w r (End worker q tick ran accepts) = nat_eq q r || wishes_touch (run_down w q ran) (ticked w q ran).wishes r
touches w r _ = false

abbrev pub is_stop : Event → Bool
is_stop (Stop caller) = true
is_stop _ = false

-- none of the entries touches r, and none is a Stop, after which no Begin is allowed
abbrev pub NoneTouches : World → ℕ → List Entry → Type 0
NoneTouches w r [] = Unit {0}
NoneTouches w r (e ∷ es) = (touches w r e.event ≡ false) × (is_stop e.event ≡ false) × NoneTouches (after w e.event) r es

-- r has in v the sections that it has in w, and a Begin of it there has the recorded chunks, the due tasks, the contents, the counter, the
-- owed number and the queued tasks, with their rests, of one in w
pub record SameBegin (r worker : ℕ) (w v : World) : Type 0 where
  pub sections : SameSections w.grid v.grid r
  pub recorded : (begun v worker r).recorded r ≡ (begun w worker r).recorded r
  pub due : due (begun v worker r) r ≡ due (begun w worker r) r
  pub flat : SameOn ((begun w worker r).recorded r) (begun w worker r).flat (begun v worker r).flat
  pub tick : (begun v worker r).tick r ≡ (begun w worker r).tick r
  pub owed : (begun v worker r).owed r ≡ (begun w worker r).owed r
  pub queued : (n : ℕ) → queued_in v.grid r ((begun v worker r).jobs n) ≡ queued_in w.grid r ((begun w worker r).jobs n)

-- a Begin of r that is allowed after es is allowed after es and ms, of which none touches r, and is the same there
abbrev pub LateBeginIsTheSame : Type 0
LateBeginIsTheSame = (o : Opening) (es ms rest : List Entry) (r worker : ℕ) → IsGrid o.grid → Run o (es ++ (ms ++ rest))
    → Allowed (world o es) (Begin worker r) → NoneTouches (world o es) r ms
    → Allowed (after_all (world o es) ms) (Begin worker r) × SameBegin r worker (world o es) (after_all (world o es) ms)
