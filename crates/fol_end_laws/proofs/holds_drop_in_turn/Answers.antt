use Rattle.fol_end_laws.proofs.DropsInTurn.{drops_in_turn}
use Rattle.fol_end_laws.proofs.holds_drop_in_turn.Goals as goal

pub returns : goal.returns
returns c = drops_in_turn
