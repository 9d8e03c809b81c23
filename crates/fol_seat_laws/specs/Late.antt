-- What a worker is at in a history of which its seat has seen a beginning, where the Begins of its ticks are recorded late, by whichever seat
-- learns of them first.
use Rattle.std.specs.Prelude.{ℕ, ◌≡◌, ◌≤◌, true, List, [], ◌++◌}
use Rattle.std.specs.List.{AllByRecursion}
use Rattle.fol_model.specs.declared.openings.Opening.{Opening}
use Rattle.fol_model.specs.declared.events.Entry.{Entry}
use Rattle.fol_model.specs.declared.tasks.Ran.{Ran}
use Rattle.fol_model.specs.declared.tasks.Task.{Task}
use Rattle.fol_model.specs.GridNumbers.{IsGrid}
use Rattle.fol_model.specs.World.{World, start}
use Rattle.fol_model.specs.Run.{Run, world}
use Rattle.fol_model.specs.Legal.{asking, idle, ticking}
use Rattle.fol_data.specs.declared.tick.Tick.{Tick}
use Rattle.fol_core.specs.Ticks.{IsBegun, IsTickOf}
use Rattle.fol_seat_laws.specs.InTurn.{AreInTurn, NoneOpen}
use Rattle.fol_seat_laws.specs.Signed.{IsSigned, deeds_of, is_start, own_of}
use Rattle.fol_seat_laws.specs.Turns.{Turns}

-- all that the seat k recorded are Begins
abbrev pub OnlyBegins : ℕ → List Entry → Type 0
OnlyBegins k es = AllByRecursion (λ (e : Entry). is_start e.event ≡ true) (own_of k es)

-- a worker whose ticks are whole has none open
abbrev pub WholeTicksLeaveNoneOpen : Type 0
WholeTicksLeaveNoneOpen = (o : Opening) (k : ℕ) (h : List Entry) → Turns k (start o) idle h idle → NoneOpen k h

-- a worker that is at nothing stays so, where behind what its seat has seen the seat recorded at most Begins, and the worker has no tick open
abbrev pub StaysIdle : Type 0
StaysIdle = (o : Opening) (k : ℕ) (h seen rest : List Entry) → h ≡ seen ++ rest → IsGrid o.grid → Run o h → AllByRecursion IsSigned h → 1 ≤ k
    → OnlyBegins k rest → Turns k (start o) idle seen idle → NoneOpen k h → Turns k (start o) idle h idle

-- a worker that is at nothing, and of which a tick is open now that was made for its seat, is in that tick at its begin, where behind what its
-- seat has seen the seat recorded at most Begins: whoever recorded the Begin of the tick, and however late
abbrev pub LateTurn : Type 0
LateTurn = (o : Opening) (k : ℕ) (h seen rest : List Entry) → h ≡ seen ++ rest → IsGrid o.grid → Run o h → AllByRecursion IsSigned h → AreInTurn h → 1 ≤ k
    → OnlyBegins k rest → Turns k (start o) idle seen idle → (t : Tick) → t.worker ≡ k → (made : IsBegun o h t.worker t.region) → IsTickOf (world o made.before) t
    → Turns k (start o) idle h (ticking t.region (asking t.due) [])

-- a worker in a tick stays where it is in it, where behind what its seat has seen the seat recorded at most Begins
abbrev pub StaysInTick : Type 0
StaysInTick = (o : Opening) (k : ℕ) (h seen rest : List Entry) → h ≡ seen ++ rest → IsGrid o.grid → Run o h → AllByRecursion IsSigned h → AreInTurn h → 1 ≤ k
    → OnlyBegins k rest → (r : ℕ) (ds : List Task) (told : List Ran) → Turns k (start o) idle seen (ticking r ds told) → Turns k (start o) idle h (ticking r ds told)

-- a worker in a tick goes on in it by what its seat recorded behind that besides Begins, as if these deeds were all: so the world w, in which
-- they are looked at alone, may be any
abbrev pub DeedsGoOn : Type 0
DeedsGoOn = (o : Opening) (k : ℕ) (h seen rest : List Entry) → h ≡ seen ++ rest → IsGrid o.grid → Run o h → AllByRecursion IsSigned h → AreInTurn h → 1 ≤ k
    → (r : ℕ) (ds left : List Task) (told more : List Ran) (deeds : List Entry) (w : World) → Turns k (start o) idle seen (ticking r ds told) → deeds_of k rest ≡ deeds
    → Turns k w (ticking r ds told) deeds (ticking r left more) → Turns k (start o) idle h (ticking r left more)
