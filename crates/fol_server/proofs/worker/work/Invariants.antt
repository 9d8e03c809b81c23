use Rattle.fol_server.specs.Crew.{IsFree, IsSameWorker}
use Rattle.fol_server.proofs.worker.work.Given as goal

abbrev pub invariant-loop-turn : goal.invariant-loop-turn
invariant-loop-turn g l = (goal.iterator-loop-turn g).can_next l._turn-iterator × (goal.iterator-loop-turn g).is_finite l._turn-iterator × IsSameWorker l.fn.worker l.worker × IsFree l.worker
