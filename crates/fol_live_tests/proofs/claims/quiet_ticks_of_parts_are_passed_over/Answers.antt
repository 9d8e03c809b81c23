use Rattle.std.proofs.Common.{◌≡◌, ◌∙◌, refl}
use Rattle.fol_live.specs.Seat.{Shown}
use Rattle.fol_live_tests.proofs.FourSeats.{are_four}
use Rattle.fol_live_tests.proofs.claims.quiet_ticks_of_parts_are_passed_over.Goals as goal

pub close-closing-requires-clause-all : goal.close-closing-requires-clause-all
close-closing-requires-clause-all g c =
    let caller : Shown = c.close_phase.new.seat in
    let first : Shown = c.end-first.result in
    let second : Shown = c.last-second.result in
    let third : Shown = c.last-third.result in
    let zero : caller.number ≡ 0 = c.close_phase.ensures.number ∙ c.open_row.ensures.number ∙ c.last-caller.ensures.number in
    let one : first.number ≡ 1
    = c.end-first.ensures.number ∙ c.claim-tick.ensures.number ∙ c.last-first.ensures.number in
    let two : second.number ≡ 2 = c.last-second.ensures.number in
    let three : third.number ≡ 3 = c.last-third.ensures.number in
    rw c.start-live.ensures.count (are_four _ caller first second third refl zero one two three)
