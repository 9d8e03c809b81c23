-- What the caller's seat does for a script.
use Rattle.std.specs.Prelude.{◌≡◌, true, List, [], ◌∷◌, ◌++◌, map}
use Rattle.std.specs.List.{AllByRecursion}
use Rattle.fol_model.specs.declared.events.Entry.{Entry}
use Rattle.fol_model.specs.declared.events.Event.TheVariants.{Finish}
use Rattle.fol_model.specs.declared.scripts.Command.{Command}
use Rattle.fol_model.specs.Legal.{order, orders}
use Rattle.fol_seat_laws.specs.Signed.{is_call}
use Rattle.fol_live.specs.Goes.{Does, Goes}
use Rattle.fol_live.specs.Seat.{Shown}

-- it carried out the command, and recorded nothing else but Begins that it learnt of
pub record Issued (old new : Shown) (c : Command) : Type 0 where
  pub own : List Entry
  pub goes : Goes old new own
  pub order : orders own ≡ order c ∷ []
  pub calls : AllByRecursion (λ (e : Entry). is_call e.event ≡ true) own

-- it finished the history, and recorded nothing else but Begins that it learnt of
pub record Finished (old new : Shown) : Type 0 where
  pub before : List Entry
  pub seen : new.seen ≡ before ++ (record { by = 0; event = Finish }) ∷ []
  pub does : Does old new ((record { by = 0; event = Finish }) ∷ [])

-- it is the caller's seat, which carried out all commands in order, but for the rest, and recorded nothing else but Begins
pub record Carries (s : Shown) (rest all : List Command) : Type 0 where
  pub zero : s.number ≡ 0
  pub orders : orders s.mine ++ map order rest ≡ map order all
  pub calls : AllByRecursion (λ (e : Entry). is_call e.event ≡ true) s.mine

-- it is the caller's seat, which carried out all commands in order and then finished the history, and recorded nothing else but Begins
pub record HasFinished (s : Shown) (all : List Command) : Type 0 where
  pub zero : s.number ≡ 0
  pub before : List Entry
  pub seen : s.seen ≡ before ++ (record { by = 0; event = Finish }) ∷ []
  pub orders : orders s.mine ≡ map order all
  pub calls : AllByRecursion (λ (e : Entry). is_call e.event ≡ true) s.mine
