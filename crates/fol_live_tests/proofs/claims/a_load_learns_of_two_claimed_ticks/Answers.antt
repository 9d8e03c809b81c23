use Rattle.std.proofs.Common.{◌≡◌, ◌∙◌, refl}
use Rattle.fol_live.specs.Seat.{Shown}
use Rattle.fol_live_tests.proofs.FourSeats.{are_four}
use Rattle.fol_live_tests.proofs.claims.a_load_learns_of_two_claimed_ticks.Goals as goal

pub close-closing-requires-clause-all : goal.close-closing-requires-clause-all
close-closing-requires-clause-all g c =
    let caller : Shown = c.ask_afterwards.new.caller in
    let first : Shown = c.ended-2.new.seat in
    let second : Shown = c.end-second.result in
    let third : Shown = c.finds_none.new.seat in
    let zero : caller.number ≡ 0 = c.ask_afterwards.ensures.number ∙ c.ask_meanwhile.ensures.number ∙ c.open.ensures.number ∙ c.last-caller.ensures.number in
    let one : first.number ≡ 1 = c.ended-2.ensures.number ∙ c.ended.ensures.number ∙ c.finds_none-2.ensures.number ∙ c.end-first.ensures.number ∙ c.claim-tick.ensures.number ∙ c.last-first.ensures.number in
    let two : second.number ≡ 2 = c.end-second.ensures.number ∙ c.claim-other.ensures.number ∙ c.last-second.ensures.number in
    let three : third.number ≡ 3 = c.finds_none.ensures.number ∙ c.last-third.ensures.number in
    rw c.start-live.ensures.count (are_four _ caller first second third refl zero one two three)
