use Rattle.fol_laws.proofs.PhaseLaws.{none_owes_outside_phases}
use Rattle.fol_laws.proofs.phases.none_owes_outside_phases.Goals as goal

pub returns : goal.returns
returns c = none_owes_outside_phases
