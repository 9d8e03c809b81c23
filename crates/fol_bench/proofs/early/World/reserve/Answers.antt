use Rattle.fol_tick_laws.proofs.Unprepared.{calm_as}
use Rattle.fol_bench.proofs.early.World.reserve.Goals as goal

pub invariant_of-self : goal.invariant_of-self
invariant_of-self c = calm_as c.self.inside.core c.reserve.new.self c.reserve.ensures.same.opening c.reserve.ensures.same.prepared c.self.invariant
