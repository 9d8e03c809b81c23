use Rattle.fol_tick.proofs.TickLaws.{end_is_flat_tick}
use Rattle.fol_tick.proofs.laws.end_is_flat_tick.Goals as goal

pub returns : goal.returns
returns c = end_is_flat_tick
