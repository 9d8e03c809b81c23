use Rattle.std.proofs.Common.{◌+◌, sym, ◌∙◌, ap, arith, length, vec_len, vec_capacity}
use Rattle.fol_model.specs.End.{accepted}
use Rattle.fol_world.proofs.StillHeld.{all_dropped, in_order, taken}
use Rattle.fol_world.proofs.WishLists.{all_answered, all_done, answers_grow, first_held, first_may, none_left, rest_fits, rest_held, rest_may}
use Rattle.fol_world.proofs.wishes.accept_all.Goals as goal

pub accept_next-answer-requires : goal.accept_next-answer-requires
accept_next-answer-requires c = let m = c.loop-wish.invariant.may in
    first_may c.loop-wish.tables c.loop-wish.chunks c.args.region c.loop-wish.held.now c.in-Some.wish c.pop_front.new.self.items (rw c.in-Some.ensures.items at m)

pub loop-wish-preserved : goal.loop-wish-preserved
loop-wish-preserved c =
    let popped = c.in-Some.ensures in
    let inv = c.loop-wish.invariant in
    let one = c.accept_next-answer.ensures in
    let t = c.loop-wish.tables in
    let v = c.loop-wish.chunks in
    let r = c.args.region in
    let held = c.loop-wish.held.now in
    let x = c.in-Some.wish in
    let xs = c.pop_front.new.self.items in
    let t' = c.accept_next-answer.new.tables in
    let v' = c.accept_next-answer.new.chunks in
    let left = c.accept_next-answer.result.1.now in
    let m = inv.may in
    record {
      may = rest_may t v r held x xs t' v' left one.accepted (rw popped.items at m);
      room = omega (arith, inv.room, popped.len, c.push_reserved.ensures.len, c.push_reserved.ensures.capacity);
      places = omega (arith, rw popped.items at inv.places, one.stack.len);
      capacity = one.stack.capacity ∙ inv.capacity;
      size = one.size ∙ inv.size;
      accepted = λ w since n s fit.
          let k = rw popped.items at (inv.accepted w since n s fit) in (
            accepted k.0 x,
            rest_held t v r held x xs t' v' left one.accepted k.0 since n k.1 k.2,
            rest_fits r k.0 x xs k.2,
            k.3,
            answers_grow c.loop-wish.answers.items c.push_reserved.new.self.items c.accept_next-answer.result.0 k.0 x xs c.push_reserved.ensures.items
                (one.answer k.0 since (length xs + n) (first_held t v r held x xs k.0 since n k.1)) ∙ k.4,
          );
    }

pub drop_due-requires : goal.drop_due-requires
drop_due-requires c = let m = c.loop-wish.invariant.may in record {
  out = taken c.loop-wish.tables c.loop-wish.chunks m.world m.since c.args.region (length c.loop-wish.wishes.items + m.rest) c.loop-wish.held.now m.held;
  order = in_order c.loop-wish.tables c.loop-wish.chunks m.world m.since c.args.region (length c.loop-wish.wishes.items + m.rest) c.loop-wish.held.now m.held;
}

pub returns-clause-accepted : goal.returns-clause-accepted
returns-clause-accepted c w since n s fit =
    let none = none_left c.loop-wish.wishes.items _ (sym c.loop-wish.wishes.ok.0) c.in_default.ensures.variant.1 in
    let k = c.loop-wish.invariant.accepted w since n s fit in
    let done = all_done c.loop-wish.tables c.loop-wish.chunks w c.args.wishes.now.items since c.args.region n c.loop-wish.held.now c.args.answers.now.items c.loop-wish.answers.items c.loop-wish.wishes.items none k.0 k.1 k.3 in
    all_dropped c.loop-wish.tables c.loop-wish.chunks _ since c.args.region n c.loop-wish.held.now done c.drop_due.new.tables c.drop_due.ensures

pub returns-clause-stack : goal.returns-clause-stack
returns-clause-stack c =
    let inv = c.loop-wish.invariant in
    let stays = c.drop_due.ensures.agenda in
    record { len = omega (arith, inv.places, ap (λ k. vec_len k) stays); capacity = ap (λ k. vec_capacity k) stays ∙ inv.capacity }

pub returns-clause-size : goal.returns-clause-size
returns-clause-size c = ap (λ k. k.size) c.drop_due.ensures.course ∙ c.loop-wish.invariant.size

pub returns-clause-answers : goal.returns-clause-answers
returns-clause-answers c w since n s fit =
    let none = none_left c.loop-wish.wishes.items _ (sym c.loop-wish.wishes.ok.0) c.in_default.ensures.variant.1 in
    let k = c.loop-wish.invariant.accepted w since n s fit in
    all_answered c.loop-wish.tables c.loop-wish.chunks w c.args.wishes.now.items since c.args.region n c.loop-wish.held.now c.args.answers.now.items c.loop-wish.answers.items c.loop-wish.wishes.items none k.0 k.4
