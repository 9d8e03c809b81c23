use Rattle.fol_view.proofs.Prefixes.{fronts_below}
use Rattle.fol_view.proofs.laws.fronts_never_fall.Goals as goal

pub returns : goal.returns
returns c = fronts_below
