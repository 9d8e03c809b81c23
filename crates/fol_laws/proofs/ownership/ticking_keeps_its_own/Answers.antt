use Rattle.fol_laws.proofs.OwnershipLaws.{ticking_keeps_its_own}
use Rattle.fol_laws.proofs.ownership.ticking_keeps_its_own.Goals as goal

pub returns : goal.returns
returns c = ticking_keeps_its_own
