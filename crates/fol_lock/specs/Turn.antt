use Rattle.std.specs.Borrow.{Lends, MutBor, Fml}
use denote.RattleType.{RattleType}
use Rattle.fol_lock.specs.declared.turn.Turn.{Turn}
use Rattle.fol_lock.specs.contracts.turn.Turn.{the_row}

-- the state that the turn lends
abbrev pub state_of : {S : Type 0} → Turn S → S
state_of turn = turn.state

-- at the end of the loan the turn has the state that was last written through it
abbrev pub LendsState : (R : RattleType) → MutBor (Turn R.Denot) → MutBor R.Denot → Fml
LendsState R turn lent = Lends (the_row R) R turn lent (λ written. record { state = written })
