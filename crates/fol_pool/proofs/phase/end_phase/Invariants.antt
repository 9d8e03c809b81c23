use Rattle.std.proofs.Common.{[]}
use Rattle.fol_live.specs.Goes.{Does}
use Rattle.fol_pool.specs.Works.{IsBack, Rests}
use Rattle.fol_pool.proofs.phase.end_phase.Given as goal

abbrev pub invariant-loop-turn : goal.invariant-loop-turn
invariant-loop-turn g l = record { caller : Does l.initial.caller l.caller []; worker : IsBack l.fn.worker l.worker; rests : Rests l.worker }
