use Rattle.fol_end_laws.proofs.GreatestInTurn.{in_turn}
use Rattle.fol_end_laws.proofs.greatest_is_found_in_turn.Goals as goal

pub returns : goal.returns
returns c = in_turn
