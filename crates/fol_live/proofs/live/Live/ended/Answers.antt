use Rattle.std.proofs.Common.{◌∙◌, ap, refl}
use Rattle.fol_live.specs.Kept.{IsKept}
use Rattle.fol_live.specs.Seat.{LiveId, Shown}
use Rattle.fol_live.specs.Shown as worlds
use Rattle.fol_live.proofs.Called.{asks}
use Rattle.fol_live.proofs.Grown.{added_same, grew}
use Rattle.fol_live.proofs.LateBegins.{learns_none}
use Rattle.fol_live.proofs.Taken.{begun, done, kept_met, log_grows, seat_again, visits}
use Rattle.fol_live.proofs.live.Live.ended.Goals as goal

pub give-requires-clause-log : goal.give-requires-clause-log
give-requires-clause-log g c =
    let b = begun c.seat.inside.hand c.take.result c.state-world.result.now c.meet.new.world c.seat.invariant.0 c.seat.invariant.1 c.state-world.ensures.value c.take-turn.ensures.state c.take-turn.ensures.seat
    refl c.take.ensures.value c.meet.ensures.meets in
    let y : worlds.Shown = c.meet.new.world in
    let kept : IsKept y = kept_met c.state-world.result.now y c.take.result c.meet.ensures.meets in
    let v = visits b y y (learns_none y _ kept) (grew y y _ (record { opening = refl; slots = refl; workers = refl }) (added_same (worlds.meaning_of y) (worlds.meaning_of y) _ (record { opening = refl; history = refl; prepared = refl })))
    kept in
    log_grows v

pub invariant_of-seat : goal.invariant_of-seat
invariant_of-seat g c =
    let b = begun c.seat.inside.hand c.take.result c.state-world.result.now c.meet.new.world c.seat.invariant.0 c.seat.invariant.1 c.state-world.ensures.value c.take-turn.ensures.state c.take-turn.ensures.seat
    refl c.take.ensures.value c.meet.ensures.meets in
    let y : worlds.Shown = c.meet.new.world in
    let kept : IsKept y = kept_met c.state-world.result.now y c.take.result c.meet.ensures.meets in
    let v = visits b y y (learns_none y _ kept) (grew y y _ (record { opening = refl; slots = refl; workers = refl }) (added_same (worlds.meaning_of y) (worlds.meaning_of y) _ (record { opening = refl; history = refl; prepared = refl })))
    kept in
    seat_again v c.give.ensures.idle c.give.ensures.number c.give.ensures.origin c.give.ensures.seen c.give.ensures.mine c.meet.result c.sight-seat-inside.result c.sight-seat-inside.ensures
    (c.meet.ensures.same ∙ c.take.ensures.value) c.seat.invariant.1

pub returns : goal.returns
returns g c =
    let b = begun c.seat.inside.hand c.take.result c.state-world.result.now c.meet.new.world c.seat.invariant.0 c.seat.invariant.1 c.state-world.ensures.value c.take-turn.ensures.state c.take-turn.ensures.seat
    refl c.take.ensures.value c.meet.ensures.meets in
    let y : worlds.Shown = c.meet.new.world in
    let kept : IsKept y = kept_met c.state-world.result.now y c.take.result c.meet.ensures.meets in
    let v = visits b y y (learns_none y _ kept) (grew y y _ (record { opening = refl; slots = refl; workers = refl }) (added_same (worlds.meaning_of y) (worlds.meaning_of y) _ (record { opening = refl; history = refl; prepared = refl })))
    kept in
    asks (done v c.give.ensures.idle c.give.ensures.number c.give.ensures.origin c.give.ensures.seen c.give.ensures.mine c.seat.view_is (ap (λ (x : LiveId). x.lock) c.requires.own))
    (c.meet.ensures.same ∙ c.take.ensures.value ∙ ap (λ (x : Shown). x.hand) c.seat.view_is) c.is_over-answer.result (record { opening = refl; history = refl; prepared = refl }) c.is_over-answer.ensures
