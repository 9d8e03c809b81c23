use Rattle.std.proofs.Common.{◌≡◌, ◌∙◌, sym, ap, refl, length, arith, List, [], ◌∷◌, ◌++◌, append_assoc}
use Rattle.std.specs.Vec.Iter.{into_iter_items}
use Rattle.fol_slots.specs.Shown.{Worker}
use Rattle.fol_offers.specs.Offered.{Offered}
use Rattle.fol_live.specs.Seat.{Shown}
use Rattle.fol_live.proofs.Dealing.{all_dealt, deals_all, fresh_free, fresh_sit, none_left}
use Rattle.fol_live.proofs.Taken.{SeatOfLock, view}
use Rattle.fol_live.proofs.deal.deal.Goals as goal

pub loop-seat-init : goal.loop-seat-init
loop-seat-init c =
    let gives = c.into_iter-seat-iterator.ensures.into_iter_gives in
    let same : into_iter_items c.into_iter-seat-iterator.result ≡ c.args.seats.items = gives.0 in
    let rest : into_iter_items c.into_iter-rest.result ≡ c.args.workers.items = c.into_iter-rest.ensures.rest in
    record {
      counted = gives.1 ∙ c.args.seats.ok.0 ∙ ap length (sym gives.0);
      workers = c.into_iter-rest.ensures.len ∙ c.args.workers.ok.0 ∙ ap length (sym rest);
      room = omega (arith, gives.1, c.len.ensures, c.in_ok-dealt.ensures.exact, c.in_ok-dealt.ensures.len);
      whole = rw (c.in_ok-dealt.ensures.items, same, rest) refl;
      sit = rw (same, rest) (fresh_sit c.args.seats.items c.args.workers.items c.requires);
      free = rw rest (fresh_free c.args.seats.items c.args.workers.items c.requires);
    }

pub invariant_of-push_reserved : goal.invariant_of-push_reserved
invariant_of-push_reserved c =
    let steps = c.in-Some.ensures.steps in
    let e = steps.0 in
    let first = (rw e at c.loop-seat.invariant.sit).0 in
    (first.idle, first.has, first.sight)

pub loop-seat-preserved-in-Some-next : goal.loop-seat-preserved-in-Some-next
loop-seat-preserved-in-Some-next c =
    let steps = c.in-Some.ensures.steps in
    let e = steps.0 in
    let l = ap length e in
    let f : into_iter_items c.loop-seat.rest ≡ c.in-Some-next.worker ∷ into_iter_items c.next-in-loop-seat.new.self = c.in-Some-next.ensures.items in
    let k = ap length f in
    let of = c.of.ensures in
    let x : Shown = view c.in-Some.seat c.loop-seat.hand in
    let pushed : c.push_reserved.new.self.items ≡ c.loop-seat.dealt.items ++ x ∷ [] = c.push_reserved.ensures.items in
    record {
      counted = omega (arith, c.loop-seat.invariant.counted, l, steps.1);
      workers = omega (arith, c.loop-seat.invariant.workers, k, c.in-Some-next.ensures.len);
      room = omega (arith, c.loop-seat.invariant.room, steps.1, c.push_reserved.ensures.len, c.push_reserved.ensures.capacity);
      whole = rw (pushed, of) (append_assoc c.loop-seat.dealt.items (x ∷ []) _ ∙ (rw (e, f) at c.loop-seat.invariant.whole));
      sit = rw of (rw (e, f) at c.loop-seat.invariant.sit).1;
      free = (rw f at c.loop-seat.invariant.free).1;
    }

pub loop-seat-preserved : goal.loop-seat-preserved
loop-seat-preserved c =
    let steps = c.in-Some.ensures.steps in
    let e = steps.0 in
    let l = ap length e in
    let f : into_iter_items c.loop-seat.rest ≡ [] = none_left (into_iter_items c.loop-seat.rest) (sym c.loop-seat.invariant.workers ∙ c.in-None-next.ensures.cases.0) in
    let after : into_iter_items c.next-in-loop-seat.new.self ≡ [] = sym c.in-None-next.ensures.items ∙ f in
    let x : Shown = view c.in-Some.seat c.loop-seat.hand in
    let pushed : c.push_reserved.new.self.items ≡ c.loop-seat.dealt.items ++ x ∷ [] = c.push_reserved.ensures.items in
    record {
      counted = omega (arith, c.loop-seat.invariant.counted, l, steps.1);
      workers = rw after c.in-None-next.ensures.cases.1;
      room = omega (arith, c.loop-seat.invariant.room, steps.1, c.push_reserved.ensures.len, c.push_reserved.ensures.capacity);
      whole = rw (pushed, after) (append_assoc c.loop-seat.dealt.items (x ∷ []) _ ∙ (rw (e, f) at c.loop-seat.invariant.whole));
      sit = rw after (rw (e, f) at c.loop-seat.invariant.sit).1;
      free = rw after tt;
    }

pub returns : goal.returns
returns c =
    let left : List SeatOfLock = into_iter_items c.loop-seat.seat-iterator in
    let rest : List (Worker Offered) = into_iter_items c.loop-seat.rest in
    let none : length left ≡ 0 = sym c.loop-seat.invariant.counted ∙ c.in-None.ensures.steps.0 in
    deals_all c.args.seats.items c.args.workers.items c.loop-seat.dealt.items (all_dealt c.loop-seat.dealt.items _ c.loop-seat.hand left rest none c.loop-seat.invariant.whole)
