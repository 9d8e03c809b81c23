use Rattle.std.proofs.Common.{◌≡◌, ◌<◌, ◌∙◌, ◌∷◌, ◌++◌, [], sym, ap, subst, length, List, map, ℕ, Contains, arith}
use Rattle.std.proofs.lemmas.List.{length-map}
use Rattle.std.specs.Vec.Iter.{into_iter_items}
use Rattle.fol_core.specs.Meaning.{Meaning}
use Rattle.fol_live.specs.Lives.{live_id}
use Rattle.fol_live.specs.Seat.{Shown}
use Rattle.fol_live.specs.Seats.{numbers_of}
use Rattle.fol_live.specs.Shown as worlds
use Rattle.fol_live.proofs.Gathering.{Left, all_idle, all_taken, are_of, at_home, bare, closes_all, closing_fault, idle_more, kept_before, plain, same_numbers, took}
use Rattle.fol_live.proofs.live.Live.close.Goals as goal

pub loop-seat-preserved-in-Some : goal.loop-seat-preserved-in-Some
loop-seat-preserved-in-Some c =
    let steps = c.in-Some.ensures.steps in
    let e = steps.0 in
    let l = ap length e in
    let pushed : c.push_reserved.new.self.items ≡ c.loop-seat.inner.items ++ c.seat.inside.seat ∷ [] = c.push_reserved.ensures.items in
    record {
      counted = omega (arith, c.loop-seat.invariant.counted, l, steps.1);
      room = omega (arith, c.loop-seat.invariant.room, steps.1, c.push_reserved.ensures.len, c.push_reserved.ensures.capacity);
      whole = rw pushed (took c.loop-seat.inner.items c.seat.inside.seat c.seat.inside.hand c.in-Some.seat _ _ c.seat.view_is (rw e at c.loop-seat.invariant.whole));
      idle = rw pushed (idle_more c.loop-seat.inner.items c.seat.inside.seat c.loop-seat.invariant.idle c.seat.invariant.0);
    }

pub loop-seat-preserved : goal.loop-seat-preserved
loop-seat-preserved c =
    let steps = c.in-Some.ensures.steps in
    let e = steps.0 in
    let l = ap length e in
    let pushed : c.push_reserved.new.self.items ≡ c.loop-seat.inner.items ++ c.seat.inside.seat ∷ [] = c.push_reserved.ensures.items in
    record {
      counted = omega (arith, c.loop-seat.invariant.counted, l, steps.1);
      room = omega (arith, c.loop-seat.invariant.room, steps.1, c.push_reserved.ensures.len, c.push_reserved.ensures.capacity);
      whole = rw pushed (took c.loop-seat.inner.items c.seat.inside.seat c.seat.inside.hand c.in-Some.seat _ _ c.seat.view_is (rw e at c.loop-seat.invariant.whole));
      idle = rw pushed (idle_more c.loop-seat.inner.items c.seat.inside.seat c.loop-seat.invariant.idle c.seat.invariant.0);
    }

pub into_core-requires : goal.into_core-requires
into_core-requires c =
    let gives = c.into_iter-seat-iterator.ensures.into_iter_gives in
    let left : List Shown = into_iter_items c.loop-seat.seat-iterator in
    let none : length left ≡ 0 = sym c.loop-seat.invariant.counted ∙ c.in-None.ensures.steps.0 in
    let same : map plain c.loop-seat.inner.items ≡ map bare c.args.seats.items = all_taken c.loop-seat.inner.items left _ none c.loop-seat.invariant.whole ∙ ap (map bare) gives.0 in
    let first : Contains (numbers_of c.args.seats.items) 0 = c.requires.all 0 c.args.self.lock.some_seat in
    let l = length-map c.args.seats.items (λ (s : Shown). s.number) in
    let some : 0 < length c.args.seats.items = omega (arith, first.1, l) in
    let home = at_home (live_id c.args.self) c.close-world.result c.loop-seat.inner.items c.args.seats.items same some c.loop-seat.invariant.idle c.close-world.ensures.seats c.requires.own in
    record { own = home.slots }

pub close-world-requires-clause-idle : goal.close-world-requires-clause-idle
close-world-requires-clause-idle c =
    let gives = c.into_iter-seat-iterator.ensures.into_iter_gives in
    let left : List Shown = into_iter_items c.loop-seat.seat-iterator in
    let none : length left ≡ 0 = sym c.loop-seat.invariant.counted ∙ c.in-None.ensures.steps.0 in
    let same : map plain c.loop-seat.inner.items ≡ map bare c.args.seats.items = all_taken c.loop-seat.inner.items left _ none c.loop-seat.invariant.whole ∙ ap (map bare) gives.0 in
    all_idle c.args.seats.items c.loop-seat.inner.items (live_id c.args.self) same c.loop-seat.invariant.idle c.requires.own

pub close-world-requires-clause-all : goal.close-world-requires-clause-all
close-world-requires-clause-all c =
    let gives = c.into_iter-seat-iterator.ensures.into_iter_gives in
    let left : List Shown = into_iter_items c.loop-seat.seat-iterator in
    let none : length left ≡ 0 = sym c.loop-seat.invariant.counted ∙ c.in-None.ensures.steps.0 in
    let same : map plain c.loop-seat.inner.items ≡ map bare c.args.seats.items = all_taken c.loop-seat.inner.items left _ none c.loop-seat.invariant.whole ∙ ap (map bare) gives.0 in
    λ n low. subst (λ (ns : List ℕ). Contains ns n) (sym (same_numbers c.args.seats.items c.loop-seat.inner.items (live_id c.args.self) same c.loop-seat.invariant.idle c.requires.own)) (c.requires.all n low)

pub returns : goal.returns
returns c =
    let gives = c.into_iter-seat-iterator.ensures.into_iter_gives in
    let left : List Shown = into_iter_items c.loop-seat.seat-iterator in
    let none : length left ≡ 0 = sym c.loop-seat.invariant.counted ∙ c.in-None.ensures.steps.0 in
    let same : map plain c.loop-seat.inner.items ≡ map bare c.args.seats.items = all_taken c.loop-seat.inner.items left _ none c.loop-seat.invariant.whole ∙ ap (map bare) gives.0 in
    let first : Contains (numbers_of c.args.seats.items) 0 = c.requires.all 0 c.args.self.lock.some_seat in
    let l = length-map c.args.seats.items (λ (s : Shown). s.number) in
    let some : 0 < length c.args.seats.items = omega (arith, first.1, l) in
    let z : worlds.Shown = c.close-world.result in
    let m : Meaning = c.into_core.result in
    let home = at_home (live_id c.args.self) z c.loop-seat.inner.items c.args.seats.items same some c.loop-seat.invariant.idle c.close-world.ensures.seats c.requires.own in
    let core : Left (live_id c.args.self).workers z m = record { learns = c.into_core.ensures.learns; opening = c.into_core.ensures.opening; workers = home.workers } in
    let of = are_of c.args.seats.items c.loop-seat.inner.items (live_id c.args.self) same c.loop-seat.invariant.idle c.requires.own _ z c.close-world.ensures.seats c.close-world.ensures.others (kept_before core) in
    record {
      closing = closes_all core c.args.seats.items c.closing.result of c.closing.ensures.rows c.closing.ensures.rests;
      fault = closing_fault core c.args.seats.items c.closing.result of c.closing.ensures.fault;
    }
