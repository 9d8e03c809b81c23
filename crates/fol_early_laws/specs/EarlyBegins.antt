-- Begins that come early: a world in which some regions, which are Ready and owe a tick, have begun it already.
use Rattle.std.specs.Prelude.{ℕ, ◌≡◌, ◌-◌, ◌≤◌, Bool, true, false, ◌&&◌, nat_eq, nat_le, if◌then◌else◌, List, Option, Some, None}
use Rattle.fol_model.specs.declared.regions.State.TheVariants.{Ready, Ticking}
use Rattle.fol_model.specs.declared.openings.Opening.{Opening}
use Rattle.fol_model.specs.declared.events.Entry.{Entry}
use Rattle.fol_model.specs.declared.events.Event.{Event}
use Rattle.fol_model.specs.declared.events.Event.TheVariants.{Begin, End}
use Rattle.fol_model.specs.GridNumbers.{IsGrid}
use Rattle.fol_model.specs.Geometry.{section_of}
use Rattle.fol_model.specs.GridState.{GridState, is_loaded}
use Rattle.fol_model.specs.ActionStep.{at_id}
use Rattle.fol_model.specs.Job.{Job}
use Rattle.fol_model.specs.World.{World}
use Rattle.fol_model.specs.Run.{after, Allowed, Run, world}
use Rattle.fol_laws.specs.LateBegin.{ground, touches}

-- a task when the ticks of all marked regions begin: on their chunks its rest falls by one, and at 0 the tick of its region takes it
abbrev pub down_all : GridState → (ℕ → Bool) → Option Job → Option Job
down_all g p None = None
down_all g p (Some j) =
    if nat_eq j.taker 0 && p (g.owner (section_of g.grid j.chunk))
    then Some (record j { rest = j.rest - 1; taker = if nat_le j.rest 1 then g.owner (section_of g.grid j.chunk) else 0 })
    else Some j

-- the same world, but for who has the open ticks
abbrev pub unhanded : World → World
unhanded w = record w { worker = λ r. 0 }

-- the grid in which the marked regions tick
abbrev pub marked_grid : GridState → (ℕ → Bool) → GridState
marked_grid g p = record g { state = λ r. if p r then Ticking else g.state r }

-- the world where each marked region has begun a tick, but for who has the open ticks
unfoldable pub ahead_of : World → (ℕ → Bool) → World
ahead_of w p = record w {
  grid = marked_grid w.grid p;
  jobs = λ n. down_all w.grid p (w.jobs n);
  worker = λ r. 0;
  recorded = λ r. if p r then (λ c. is_loaded w.grid c && ground w.grid r c) else w.recorded r;
  owed = λ r. if p r then w.owed r - 1 else w.owed r;
}

-- x is the world w where each marked region, which is Ready and owes a tick in w, has begun it, but for who has the open ticks
pub record IsAhead (p : ℕ → Bool) (w x : World) : Type 0 where
  pub ready : (r : ℕ) → p r ≡ true → w.grid.state r ≡ Ready
  pub owes : (r : ℕ) → p r ≡ true → 1 ≤ w.owed r
  pub same : unhanded x ≡ ahead_of w p

-- the event as it is in x: an End is by who has the tick there
abbrev pub own_event : World → Event → Event
own_event x (End worker r tick ran accepts) = End (x.worker r) r tick ran accepts
own_event x e = e

-- the event touches no marked region
abbrev pub SparesAll : World → (ℕ → Bool) → Event → Type 0
SparesAll w p e = (r : ℕ) → p r ≡ true → touches w r e ≡ false

-- an event that touches no marked region is allowed where these have begun already, with the same answers, and leads to the same world
abbrev pub EventsMeetEarlyBegins : Type 0
EventsMeetEarlyBegins = (o : Opening) (es : List Entry) (p : ℕ → Bool) (x : World) (e : Event) → IsGrid o.grid → Run o es
    → IsAhead p (world o es) x → Allowed (world o es) e → SparesAll (world o es) p e
    → Allowed x (own_event x e) × IsAhead p (after (world o es) e) (after x (own_event x e))

-- a region that is Ready and owes a tick begins early, and is marked then
abbrev pub BeginComesEarly : Type 0
BeginComesEarly = (w x : World) (p : ℕ → Bool) (worker r : ℕ) → IsAhead p w x → p r ≡ false → Allowed w (Begin worker r)
    → Allowed x (Begin worker r) × IsAhead (at_id p r true) w (after x (Begin worker r))

-- the Begin of a marked region comes, and the region is marked no more
abbrev pub EarlyBeginIsMet : Type 0
EarlyBeginIsMet = (w x : World) (p : ℕ → Bool) (worker r : ℕ) → IsAhead p w x → p r ≡ true → IsAhead (at_id p r false) (after w (Begin worker r)) x
