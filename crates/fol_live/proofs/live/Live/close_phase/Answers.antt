use Rattle.std.proofs.Common.{◌∙◌, ap}
use Rattle.fol_live.specs.Seat.{LiveId, Shown}
use Rattle.fol_live.proofs.Called.{closes}
use Rattle.fol_live.proofs.Grown.{added_close, answered}
use Rattle.fol_live.proofs.Taken.{begun, done, log_grows, seat_again}
use Rattle.fol_live.proofs.live.Live.close_phase.Goals as goal

pub give-requires-clause-log : goal.give-requires-clause-log
give-requires-clause-log g c =
    let b = begun c.seat.inside.hand c.take.result c.state-world.result.now c.meet.new.world c.seat.invariant.0 c.seat.invariant.1 c.state-world.ensures.value c.take-turn.ensures.state c.take-turn.ensures.seat
    c.number-by.ensures c.take.ensures.value c.meet.ensures.meets in
    let v = answered b c.close_phase-answer.ensures (λ m k x. added_close m k c.number-by.result x) in
    log_grows v

pub invariant_of-seat : goal.invariant_of-seat
invariant_of-seat g c =
    let b = begun c.seat.inside.hand c.take.result c.state-world.result.now c.meet.new.world c.seat.invariant.0 c.seat.invariant.1 c.state-world.ensures.value c.take-turn.ensures.state c.take-turn.ensures.seat
    c.number-by.ensures c.take.ensures.value c.meet.ensures.meets in
    let v = answered b c.close_phase-answer.ensures (λ m k x. added_close m k c.number-by.result x) in
    seat_again v c.give.ensures.idle c.give.ensures.number c.give.ensures.origin c.give.ensures.seen c.give.ensures.mine c.meet.result c.sight-seat-inside.result c.sight-seat-inside.ensures
    (c.meet.ensures.same ∙ c.take.ensures.value) c.seat.invariant.1

pub returns : goal.returns
returns g c =
    let b = begun c.seat.inside.hand c.take.result c.state-world.result.now c.meet.new.world c.seat.invariant.0 c.seat.invariant.1 c.state-world.ensures.value c.take-turn.ensures.state c.take-turn.ensures.seat
    c.number-by.ensures c.take.ensures.value c.meet.ensures.meets in
    let v = answered b c.close_phase-answer.ensures (λ m k x. added_close m k c.number-by.result x) in
    let told = c.close_phase-answer.ensures in
    closes (done v c.give.ensures.idle c.give.ensures.number c.give.ensures.origin c.give.ensures.seen c.give.ensures.mine c.seat.view_is (ap (λ (x : LiveId). x.lock) c.requires.own))
    (c.meet.ensures.same ∙ c.take.ensures.value ∙ ap (λ (x : Shown). x.hand) c.seat.view_is) c.close_phase-answer.result told.answer told.recorded told.refused
