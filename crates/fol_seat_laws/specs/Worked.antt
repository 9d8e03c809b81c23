-- What the seats of a world tell of its whole history, once they are all back.
use Rattle.std.specs.Prelude.{ℕ, ◌≡◌, ◌≤◌, true, false, List, [], ◌∷◌, ◌++◌, map}
use Rattle.std.specs.List.{AllByRecursion}
use Rattle.fol_model.specs.declared.openings.Opening.{Opening}
use Rattle.fol_model.specs.declared.scripts.Command.{Command}
use Rattle.fol_model.specs.declared.events.Event.TheVariants.{Finish}
use Rattle.fol_model.specs.declared.events.Entry.{Entry}
use Rattle.fol_model.specs.GridNumbers.{IsGrid}
use Rattle.fol_model.specs.World.{start}
use Rattle.fol_model.specs.Run.{Run, world}
use Rattle.fol_model.specs.Legal.{Legal, idle, order, orders}
use Rattle.fol_seat_laws.specs.Late.{OnlyBegins}
use Rattle.fol_seat_laws.specs.Signed.{IsBegunBelow, IsSigned, is_phase, is_call, own_of}
use Rattle.fol_seat_laws.specs.Turns.{Turns}

-- the ticks of worker k in a beginning of the history, whoever recorded their Begins, are whole unless it was stopped; behind it the worker's
-- seat recorded at most Begins
pub record WasWhole (o : Opening) (h : List Entry) (k : ℕ) : Type 0 where
  pub seen : List Entry
  pub rest : List Entry
  pub is : h ≡ seen ++ rest
  pub behind : OnlyBegins k rest
  pub ticks : (world o seen).stopped ≡ false → Turns k (start o) idle seen idle

-- so it is, and the seat opened, closed and finished nothing
pub record Worked (o : Opening) (h : List Entry) (k : ℕ) : Type 0 where
  pub whole : WasWhole o h k
  pub calm : AllByRecursion (λ e. is_phase e.event ≡ false) (own_of k h)

-- caller 0 carried out these commands, and finished
pub record Called (h : List Entry) (script : List Command) : Type 0 where
  pub seen : List Entry
  pub rest : List Entry
  pub is : h ≡ seen ++ (record { by = 0; event = Finish }) ∷ rest
  pub commands : orders (own_of 0 h) ≡ map order script
  pub calls : AllByRecursion (λ e. is_call e.event ≡ true) (own_of 0 h)

-- a history of which all seats, 0 to w, tell so is a legal one
abbrev pub SeatsMakeLegal : Type 0
SeatsMakeLegal = (o : Opening) (script : List Command) (w : ℕ) (h : List Entry) → IsGrid o.grid → Run o h → AllByRecursion IsSigned h → AllByRecursion (λ e. e.by ≤ w) h
    → AllByRecursion (IsBegunBelow w) h → Called h script → ((k : ℕ) → 1 ≤ k → k ≤ w → Worked o h k) → Legal o script w h
