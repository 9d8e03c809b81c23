-- Which histories are the beginning of one of a script that w workers run.
use Rattle.std.specs.Prelude.{ℕ, ◌≡◌, ◌≤◌, true, nat_eq, if◌then◌else◌, List, [], ◌∷◌, ◌++◌, map, IsTrue}
use Rattle.std.specs.List.{list_all}
use Rattle.fol_model.specs.World.{World, start}
use Rattle.fol_model.specs.Run.{Run, after, world}
use Rattle.fol_model.specs.Legal.{Doing, IsTurn, Order, idle, is_of, order, orders, turn, worker_of}
use Rattle.fol_model.specs.declared.scripts.Command.{Command}
use Rattle.fol_model.specs.declared.openings.Opening.{Opening}
use Rattle.fol_model.specs.declared.events.Entry.{Entry}

-- the entries of worker k are whole ticks, of which the last may be cut off
abbrev pub TicksSoFar : ℕ → World → Doing → List Entry → Type 0
TicksSoFar k w d [] = Unit {0}
TicksSoFar k w d (e ∷ es) =
    (IsTrue (nat_eq (worker_of e.event) k) → IsTurn d e.event)
    × TicksSoFar k (after w e.event) (if nat_eq (worker_of e.event) k then turn w d e.event else d) es

-- the history is a run of the opening without a Stop; what caller 0 did are the first commands of the script; every other entry is of a
-- worker from 1 to w, whose entries are whole ticks, of which the last may be cut off; and Finish stands only behind all commands
pub record SoFar (o : Opening) (script : List Command) (w : ℕ) (es : List Entry) : Type 0 where
  pub run : Run o es
  -- what is left to be ordered
  pub later : List Order
  pub commands : orders es ++ later ≡ map order script
  pub workers : IsTrue (list_all (λ e. is_of w e.event) es)
  pub ticks : (k : ℕ) → 1 ≤ k → k ≤ w → TicksSoFar k (start o) idle es
  pub finish : (world o es).finished ≡ true → later ≡ []
