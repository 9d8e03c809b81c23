use Rattle.std.proofs.Common.{rules, ap, ◌∙◌, sym, subst, ◌≡◌, ◌+◌, arith}
use Rattle.fol_lock.specs.Seat.{AreNew}
use Rattle.fol_lock.specs.View.{dealer_of}
use Rattle.fol_lock.proofs.Deals.{deals}
use Rattle.fol_lock.proofs.Newcomers.{one_more_seat, shows_newcomer}
use Rattle.fol_lock.proofs.lock.Lock.deal.Goals as goal

pub split_seat-pass-requires : goal.split_seat-pass-requires
split_seat-pass-requires g c =
    let is = c.loop-number.invariant.me in
    let number = ap (λ m. m.0.own.number) is in
    let count = c.requires.count in
    let some_seat = c.args.self.now.some_seat in
    let test = c.loop-number-test.true in (
      search rules,
      search rules,
      deals _ _ _ _ _ _ _ (ap (λ m. m.0.live) is) (ap (λ m. m.0.deals) is) (ap (λ m. m.0.joined) is) (omega (arith, number, test, count, some_seat)),
    )

pub loop-number-preserved : goal.loop-number-preserved
loop-number-preserved g c =
    let inv = c.loop-number.invariant in
    let split = c.split_seat-pass.ensures in
    let lock = c.args.self.now.table.shared.table_id in
    let origin = g.S.Kept.origin c.args.self.now.table.shared.key.state.value in
    let n = c.loop-number.number in record {
      table = split.0 ∙ inv.table;
      me = split.2 ∙ ap (λ m. (dealer_of m.0, m.1)) inv.me;
      new = subst (AreNew lock origin (n + 1)) (sym c.push_reserved.ensures.items) (one_more_seat lock origin n _ _
          (shows_newcomer {S = g.row.S.Denot} origin c.split_seat-pass.result.table_id lock c.split_seat-pass.result.me n (split.3 ∙ inv.table) (ap (λ m. m.0.own) split.4 ∙ ap (λ m. m.0.own) inv.me) (ap (λ m. m.0.turn) split.4)) inv.new);
      room = search rules;
    }

pub returns : goal.returns
returns g c =
    let inv = c.loop-number.invariant in
    let lock = c.args.self.now.table.shared.table_id in
    let origin = g.S.Kept.origin c.args.self.now.table.shared.key.state.value in
    let n = c.loop-number.number in
    let count = c.requires.count in
    let some_seat = c.args.self.now.some_seat in
    let last : n + 1 ≡ c.args.count = omega (arith, c.loop-number-test.false, c.loop-number.auto.number-end, count, some_seat) in
    let first = c.loop-number.first in
    subst (λ k. AreNew lock origin k c.push_reserved-2.new.self.items) last (subst (AreNew lock origin (n + 1)) (sym c.push_reserved-2.ensures.items) (one_more_seat lock origin n c.loop-number.seats.items _
    (shows_newcomer {S = g.row.S.Denot} origin first.table_id lock first.me n inv.table (ap (λ m. m.0.own) inv.me) (ap (λ m. m.0.turn) inv.me)) inv.new))
