-- What the words are while the seats know what they show.
use Rattle.std.specs.Prelude.{◌≡◌, ℕ, slice_index, Option, true}
use mathlib.Core.Option.{some}
use lib.ListN.{get_elem?}
use Rattle.atomic_table.specs.Table.{State}
use Rattle.fol_slots.specs.declared.view.View.{View}
use Rattle.fol_slots.specs.declared.word.Word.{Word}
use Rattle.fol_slots.specs.Words.{code_of}
use Rattle.fol_slots.specs.Hands.{Ruled}
use Rattle.fol_slots.specs.Shown.{Worker, Keeper}

-- The table at a moment at which the keeper's seat is one of its seats, and knows what k shows.
pub record AtKeeper {T : Type 0} (fit : T → Type 0) (k : Keeper T) (s : State (Option T) (View T)) : Type 0 where
  pub ruled : Ruled fit k.slots.slots s
  pub seat : ℕ
  pub knows : View T
  pub there : get_elem? s.views seat ≡ some knows
  pub keeper : knows.keeper ≡ true
  pub places : knows.places ≡ k.places

-- The same of a worker's seat.
pub record AtWorker {T : Type 0} (w : Worker T) (s : State (Option T) (View T)) : Type 0 where
  pub seat : ℕ
  pub knows : View T
  pub there : get_elem? s.views seat ≡ some knows
  pub worker : knows.worker ≡ true
  pub number : knows.number ≡ w.number
  pub slot : knows.slot ≡ w.slot

-- At each such moment the word of slot i is this one.
pub record WordIs {T : Type 0} (fit : T → Type 0) (k : Keeper T) (i : ℕ) (x : Word) : Type 0 where
  pub word : (s : State (Option T) (View T)) → AtKeeper fit k s → slice_index s.words i ≡ code_of x

-- The same at each moment of both seats.
pub record WordIsOf {T : Type 0} (fit : T → Type 0) (k : Keeper T) (w : Worker T) (i : ℕ) (x : Word) : Type 0 where
  pub word : (s : State (Option T) (View T)) → AtKeeper fit k s → AtWorker w s → slice_index s.words i ≡ code_of x
