use Rattle.fol_live.specs.Hands.{GivesUp}
use Rattle.fol_live.proofs.Holding.{gives_back}
use Rattle.fol_live.proofs.hand.Hand.end.Goals as goal

pub end-worker-requires-clause-ran : goal.end-worker-requires-clause-ran
end-worker-requires-clause-ran c =
    let gives : GivesUp c.self.inside.worker c.args.tick.value = rw c.self.view_is c.requires.ran in
    gives_back c.self.inside.region c.self.inside.worker c.args.tick.value c.self.invariant gives
