-- What a region keeps to itself while it ticks.
use Rattle.fol_laws.specs.Ownership.{TickingKeepsItsOwn}
use Rattle.fol_laws.proofs.OwnedRuns.{owned}

pub ticking_keeps_its_own : TickingKeepsItsOwn
ticking_keeps_its_own = owned
