use Rattle.fol_pool.specs.Works.{Rests, SameSeat}
use Rattle.fol_pool.proofs.tick.ticks.Given as goal

abbrev pub invariant-loop-turn : goal.invariant-loop-turn
invariant-loop-turn g l = record { same : SameSeat l.fn.seat l.seat; rests : Rests l.seat }
