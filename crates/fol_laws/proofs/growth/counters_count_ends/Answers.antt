use Rattle.fol_laws.proofs.GrowthLaws.{counters_count_ends}
use Rattle.fol_laws.proofs.growth.counters_count_ends.Goals as goal

pub returns : goal.returns
returns c = counters_count_ends
