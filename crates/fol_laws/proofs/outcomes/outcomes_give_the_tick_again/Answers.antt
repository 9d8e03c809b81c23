use Rattle.fol_laws.proofs.OutcomeLaws.{outcomes_give_the_tick_again}
use Rattle.fol_laws.proofs.outcomes.outcomes_give_the_tick_again.Goals as goal

pub returns : goal.returns
returns c = outcomes_give_the_tick_again
