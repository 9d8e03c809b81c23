-- When a region owes ticks.
use Rattle.fol_laws.specs.Phases.{NoneOwesOutsidePhases}
use Rattle.fol_laws.proofs.WholeRuns.{good_run}

pub none_owes_outside_phases : NoneOwesOutsidePhases
none_owes_outside_phases o es rest ok run = (good_run o es rest ok run).owing
