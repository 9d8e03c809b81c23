use Rattle.fol_live.proofs.Bare.{ok_map}
use Rattle.fol_live.proofs.FreeSeats.{are_free}
use Rattle.fol_bench.proofs.world.start.Goals as goal

pub returns-clause-own : goal.returns-clause-own
returns-clause-own c = ok_map _ _ c.start.result (λ made new k d low. (are_free _ _ _ made.seats.items new k d low).0) c.start.ensures.seats

pub returns-clause-free : goal.returns-clause-free
returns-clause-free c = ok_map _ _ c.start.result (λ made new k d low. (are_free _ _ _ made.seats.items new k d low).1) c.start.ensures.seats
