use Rattle.fol_tick_laws.proofs.OpenTicks.{untouched_more}
use Rattle.fol_tick_laws.proofs.only_a_touch_is_one.Goals as goal

pub returns : goal.returns
returns c = untouched_more
