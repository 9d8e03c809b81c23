use Rattle.std.proofs.Common.{◌∙◌, ap}
use Rattle.fol_live.proofs.FreeSeats.{free_still}
use Rattle.fol_live.specs.Seat.{Shown}
use Rattle.fol_live_tests.proofs.seats.finds_none.Goals as goal

pub returns-clause-free : goal.returns-clause-free
returns-clause-free g c =
    let missed = c.in-Idle.ensures in
    (ap (λ (s : Shown). s.lock) missed.is ∙ c.requires.free.0, free_still c.args.seat.now c.try_begin.new.seat c.requires.free.1 missed)
