-- Which histories are runs, and the world after one.
use Rattle.std.specs.Prelude.{ℕ, ◌≡◌, ◌≢◌, ◌+◌, ◌≤◌, true, false, nat_eq, if◌then◌else◌, List, [], ◌∷◌, IsTrue}
use Rattle.fol_model.specs.declared.places.ChunkPos.{ChunkPos}
use Rattle.fol_model.specs.declared.regions.State.TheVariants.{Ready, Ticking, Dead}
use Rattle.fol_model.specs.Geometry.{is_chunk}
use Rattle.fol_model.specs.GridState.{present_count}
use Rattle.fol_model.specs.Add.{is_full, wanted}
use Rattle.fol_model.specs.Limits.{is_action, is_delay, may_post}
use Rattle.fol_model.specs.World.{World, start}
use Rattle.fol_model.specs.Holds.{loaded, unloaded, posted, posting}
use Rattle.fol_model.specs.QueuedTask.{begun}
use Rattle.fol_model.specs.End.{ended, ticked, run_down, answers}
use Rattle.fol_model.specs.declared.openings.Opening.{Opening}
use Rattle.fol_model.specs.declared.events.Loaded.{Loaded}
use Rattle.fol_model.specs.declared.events.Loaded.TheVariants as load
use Rattle.fol_model.specs.declared.events.Unloaded.{Unloaded}
use Rattle.fol_model.specs.declared.events.Unloaded.TheVariants as unload
use Rattle.fol_model.specs.declared.events.Event.{Event}
use Rattle.fol_model.specs.declared.events.Event.TheVariants.{Load, Unload, Post, PhaseOpen, Begin, End, PhaseClose, Finish, Stop}
use Rattle.fol_model.specs.declared.events.Entry.{Entry}

-- the world after one event
abbrev pub after : World → Event → World
after w (Load caller c answer) = loaded w c
after w (Unload caller c answer) = unloaded w c
after w (Post caller c d a answer) = posted w c d a
after w (PhaseOpen n) = record w { in_phase = true; sum = w.sum + n; owed = λ r. n }
after w (Begin worker r) = begun w worker r
after w (End worker r tick ran accepts) = ended w r ran
after w PhaseClose = record w { in_phase = false }
after w Finish = record w { finished = true }
after w (Stop caller) = record w { stopped = true }

abbrev pub load_answer : World → ChunkPos → Loaded
load_answer w c = if is_full w.grid c then load.Full (present_count w.grid) (wanted w.grid c) else load.Counted

abbrev pub unload_answer : World → ChunkPos → Unloaded
unload_answer w c = if nat_eq (w.tickets c) 0 then unload.NoTicket else unload.Lowered

-- where an event is allowed
abbrev pub Allowed : World → Event → Type 0
Allowed w (Load caller c answer) = IsTrue (is_chunk c) × (answer ≡ load_answer w c)
Allowed w (Unload caller c answer) = IsTrue (is_chunk c) × (answer ≡ unload_answer w c)
Allowed w (Post caller c d a answer) = IsTrue (is_chunk c) × IsTrue (is_delay d) × IsTrue (is_action a) × IsTrue (may_post a) × (answer ≡ posting w c)
Allowed w (PhaseOpen n) = (w.in_phase ≡ false) × (w.stopped ≡ false) × (1 ≤ n) × (w.sum + n ≤ 10000)
Allowed w (Begin worker r) = (w.grid.state r ≡ Ready) × (1 ≤ w.owed r) × (w.stopped ≡ false)
Allowed w (End worker r tick ran accepts) =
    (w.grid.state r ≡ Ticking) × (worker ≡ w.worker r) × (tick ≡ w.tick r + 1)
    × (ran ≡ (ticked w r ran).ran) × (accepts ≡ answers (run_down w r ran) (ticked w r ran).wishes)
Allowed w PhaseClose = (w.in_phase ≡ true) × (w.stopped ≡ false) × ((r : ℕ) → w.grid.state r ≢ Dead → (w.grid.state r ≡ Ready) × (w.owed r ≡ 0))
Allowed w Finish = (w.in_phase ≡ false) × (w.stopped ≡ false)
Allowed w (Stop caller) = w.stopped ≡ false

-- the world after the entries
abbrev pub after_all : World → List Entry → World
after_all w [] = w
after_all w (e ∷ es) = after_all (after w e.event) es

-- each entry is allowed in the world that it meets, and none follows Finish
abbrev pub RunFrom : World → List Entry → Type 0
RunFrom w [] = Unit {0}
RunFrom w (e ∷ es) = (w.finished ≡ false) × Allowed w e.event × RunFrom (after w e.event) es

abbrev pub world : Opening → List Entry → World
world o es = after_all (start o) es

abbrev pub Run : Opening → List Entry → Type 0
Run o es = RunFrom (start o) es
