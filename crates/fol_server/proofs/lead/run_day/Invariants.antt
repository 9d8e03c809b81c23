use Rattle.fol_server.specs.Crew.{IsFree, IsSameLead}
use Rattle.fol_server.proofs.lead.run_day.Given as goal

abbrev pub invariant-loop-turn : goal.invariant-loop-turn
invariant-loop-turn g l = (goal.iterator-loop-turn g).can_next l._turn-iterator × (goal.iterator-loop-turn g).is_finite l._turn-iterator × IsSameLead l.fn.lead l.lead × IsFree l.lead.worker
