use Rattle.std.proofs.Common.{◌≡◌, ◌∙◌, ap, sym, subst}
use Rattle.std.specs.Prelude.{OnErr, OnOk, Some}
use Rattle.std.specs.Option.{ForSome}
use Rattle.fol_slots.specs.Shown.{freed}
use Rattle.fol_live.specs.Seat.{LiveId, Shown, origin_of}
use Rattle.fol_live.specs.Turned.{GivesIn}
use Rattle.fol_live.proofs.Passed.{ended}
use Rattle.fol_live.proofs.Releasing.{gives_in, hand_after, release_done, worker_is}
use Rattle.fol_live.proofs.Taken.{Hand, begun, done, log_grows, seat_with}
use Rattle.fol_live.proofs.live.Live.release.Goals as goal

pub end-hand-requires-clause-ran : goal.end-hand-requires-clause-ran
end-hand-requires-clause-ran g c =
    let same : c.meet-hand.result ≡ c.seat.inside.hand = c.meet-hand.ensures.same ∙ c.take.ensures.value in
    let here : GivesIn c.seat.inside.hand c.args.tick.value = gives_in (origin_of c.seat.inside.seat.origin) c.seat.inside.seat.number c.seat.inside.hand c.args.seat.now c.args.tick.value c.seat.invariant.1
    (ap (λ (x : Shown). x.number) (sym c.seat.view_is)) (ap (λ (x : Shown). x.hand) (sym c.seat.view_is)) c.requires.ran in
    subst (λ (h : Hand). GivesIn h c.args.tick.value) (sym same) here

pub give-requires-clause-log : goal.give-requires-clause-log
give-requires-clause-log g c =
    let s = c.seat.inside.seat in
    let by : c.args.tick.value.worker ≡ s.number = worker_is c.args.seat.now c.args.tick.value c.requires.ran ∙ ap (λ (x : Shown). x.number) (sym c.seat.view_is) in
    let b = begun c.seat.inside.hand c.take.result c.state-world.result.now c.meet-hand.new.world c.seat.invariant.0 c.seat.invariant.1 c.state-world.ensures.value c.take-turn.ensures.state c.take-turn.ensures.seat
    by c.take.ensures.value c.meet-hand.ensures.meets in
    let told = c.end-hand.ensures.ends in
    let v = ended c.args.tick.value c.args.most c.end-hand.result.1 b told in
    log_grows v

pub invariant_of-seat : goal.invariant_of-seat
invariant_of-seat g c =
    let s = c.seat.inside.seat in
    let by : c.args.tick.value.worker ≡ s.number = worker_is c.args.seat.now c.args.tick.value c.requires.ran ∙ ap (λ (x : Shown). x.number) (sym c.seat.view_is) in
    let b = begun c.seat.inside.hand c.take.result c.state-world.result.now c.meet-hand.new.world c.seat.invariant.0 c.seat.invariant.1 c.state-world.ensures.value c.take-turn.ensures.state c.take-turn.ensures.seat
    by c.take.ensures.value c.meet-hand.ensures.meets in
    let told = c.end-hand.ensures.ends in
    let v = ended c.args.tick.value c.args.most c.end-hand.result.1 b told in
    let same : c.meet-hand.result ≡ c.seat.inside.hand = c.meet-hand.ensures.same ∙ c.take.ensures.value in
    let here : GivesIn c.seat.inside.hand c.args.tick.value = gives_in (origin_of c.seat.inside.seat.origin) c.seat.inside.seat.number c.seat.inside.hand c.args.seat.now c.args.tick.value c.seat.invariant.1
    (ap (λ (x : Shown). x.number) (sym c.seat.view_is)) (ap (λ (x : Shown). x.hand) (sym c.seat.view_is)) c.requires.ran in
    let freed_is = subst (λ (h : Hand). OnOk c.end-hand.result.1 (ForSome h (λ w. c.end-hand.result.0 ≡ Some (freed w)))) same c.end-hand.ensures.freed in
    let kept = subst (λ (h : Hand). OnErr c.end-hand.result.1 (c.end-hand.result.0 ≡ h)) same c.end-hand.ensures.kept in
    seat_with v c.give.ensures.idle c.give.ensures.number c.give.ensures.origin c.give.ensures.seen c.give.ensures.mine c.end-hand.result.0 c.sight_of_ticks-seat-inside.result c.sight_of_ticks-seat-inside.ensures
    (hand_after (origin_of c.seat.inside.seat.origin) c.seat.inside.seat.number c.seat.inside.hand c.end-hand.result.0 c.end-hand.result.1 c.args.tick.value c.seat.invariant.1 here freed_is kept)

pub returns : goal.returns
returns g c =
    let s = c.seat.inside.seat in
    let by : c.args.tick.value.worker ≡ s.number = worker_is c.args.seat.now c.args.tick.value c.requires.ran ∙ ap (λ (x : Shown). x.number) (sym c.seat.view_is) in
    let b = begun c.seat.inside.hand c.take.result c.state-world.result.now c.meet-hand.new.world c.seat.invariant.0 c.seat.invariant.1 c.state-world.ensures.value c.take-turn.ensures.state c.take-turn.ensures.seat
    by c.take.ensures.value c.meet-hand.ensures.meets in
    let told = c.end-hand.ensures.ends in
    let v = ended c.args.tick.value c.args.most c.end-hand.result.1 b told in
    let same : c.meet-hand.result ≡ c.seat.inside.hand = c.meet-hand.ensures.same ∙ c.take.ensures.value in
    let here : GivesIn c.seat.inside.hand c.args.tick.value = gives_in (origin_of c.seat.inside.seat.origin) c.seat.inside.seat.number c.seat.inside.hand c.args.seat.now c.args.tick.value c.seat.invariant.1
    (ap (λ (x : Shown). x.number) (sym c.seat.view_is)) (ap (λ (x : Shown). x.hand) (sym c.seat.view_is)) c.requires.ran in
    let freed_is = subst (λ (h : Hand). OnOk c.end-hand.result.1 (ForSome h (λ w. c.end-hand.result.0 ≡ Some (freed w)))) same c.end-hand.ensures.freed in
    let kept = subst (λ (h : Hand). OnErr c.end-hand.result.1 (c.end-hand.result.0 ≡ h)) same c.end-hand.ensures.kept in
    let d = done v c.give.ensures.idle c.give.ensures.number c.give.ensures.origin c.give.ensures.seen c.give.ensures.mine c.seat.view_is (ap (λ (x : LiveId). x.lock) c.requires.own) in
    release_done c.seat.inside.hand c.args.tick.value c.args.most c.end-hand.result.1 told d here (ap (λ (x : Shown). x.hand) (sym c.seat.view_is)) freed_is kept c.end-hand.ensures.back
