-- Each worker has at most one open tick.
use Rattle.std.specs.Prelude.{ℕ, ◌≤◌, List}
use Rattle.std.specs.List.{AllByRecursion}
use Rattle.fol_model.specs.declared.events.Entry.{Entry}
use Rattle.fol_seat_laws.specs.InTurn.{AreInTurn, NoneOpen}
use Rattle.fol_seat_laws.specs.Signed.{IsBegunBelow}
use Rattle.fol_offers.specs.Shown.{Shown}

-- each worker is one of so many, from 1 on, and has no open tick where it begins one
pub record TakeTurns (workers : ℕ) (h : List Entry) : Type 0 where
  pub turns : AreInTurn h
  pub below : AllByRecursion (IsBegunBelow workers) h

-- the worker is one of so many, and has no open tick
pub record IsFree (workers : ℕ) (h : List Entry) (k : ℕ) : Type 0 where
  pub some : 1 ≤ k
  pub low : k ≤ workers
  pub none : NoneOpen k h

-- the workers for which there are seats take turns
abbrev pub InTurn : Shown → Type 0
InTurn s = TakeTurns s.workers s.core.history
