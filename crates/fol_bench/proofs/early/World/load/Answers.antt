use Rattle.fol_tick_laws.proofs.Unprepared.{calm_loaded}
use Rattle.fol_bench.proofs.Calm.{calm_kept}
use Rattle.fol_bench.proofs.early.World.load.Goals as goal

pub invariant_of-self : goal.invariant_of-self
invariant_of-self c =
    calm_kept c.self.inside.core c.load.new.self c.load.result _ (λ a. calm_loaded c.self.inside.core c.load.new.self 0 c.args.chunk a) c.load.ensures.recorded
    c.load.ensures.refused c.self.invariant
