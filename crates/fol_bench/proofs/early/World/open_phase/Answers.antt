use Rattle.fol_tick_laws.proofs.Unprepared.{calm_phased}
use Rattle.fol_bench.proofs.Calm.{calm_kept}
use Rattle.fol_bench.proofs.early.World.open_phase.Goals as goal

pub invariant_of-self : goal.invariant_of-self
invariant_of-self c =
    calm_kept c.self.inside.core c.open_phase.new.self c.open_phase.result _ (λ a. calm_phased c.self.inside.core c.open_phase.new.self 0 1 a) c.open_phase.ensures.recorded
    c.open_phase.ensures.refused c.self.invariant
