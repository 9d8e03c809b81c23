use Rattle.std.proofs.Common.{arith}
use Rattle.fol_keyed.proofs.OneMore.{order_insert, order_remove, recorded_between, recorded_where}
use Rattle.fol_keyed.proofs.Pending.{changes_leave, list_less}
use Rattle.fol_keyed.proofs.chunk_set.leave.Goals as goal

pub returns-then-len-lt-LONG-clause-pending : goal.returns-then-len-lt-LONG-clause-pending
returns-then-len-lt-LONG-clause-pending c =
    let p = c.requires.pending in
    record {
      changes_rise = p.changes_rise;
      list_rises = λ _. rw c.remove.ensures.items (order_remove c.args.list.now.items c.args.i c.requires.order);
      enough = λ l. let h = p.enough l in omega (arith, h, c.remove.ensures.len);
    }

pub returns-then-len-lt-LONG-clause-order : goal.returns-then-len-lt-LONG-clause-order
returns-then-len-lt-LONG-clause-order c = rw c.remove.ensures.items (order_remove c.args.list.now.items c.args.i c.requires.order)

pub returns-then-len-lt-LONG-clause-has : goal.returns-then-len-lt-LONG-clause-has
returns-then-len-lt-LONG-clause-has c = λ q.
    rw c.remove.ensures.items
    (list_less c.args.list.now.items c.args.changes.now.items c.args.c q c.args.i c.requires.order c.requires.place c.requires.at
    (recorded_between c.args.changes.now.items c.args.j c.args.c c.requires.changes_at))

pub returns-in-Ok-clause-pending : goal.returns-in-Ok-clause-pending
returns-in-Ok-clause-pending c =
    let room = rw c.deref.ensures.value at c.in-Ok.ensures.room in
    record {
      changes_rise = rw c.in-Ok.ensures.ok (order_insert c.args.changes.now.items c.args.j c.args.c c.requires.pending.changes_rise c.requires.changes_place c.requires.changes_at);
      list_rises = λ _. c.requires.order;
      enough = λ _. room;
    }

pub returns-in-Ok-clause-has : goal.returns-in-Ok-clause-has
returns-in-Ok-clause-has c = λ q.
    rw c.in-Ok.ensures.ok
    (changes_leave c.args.list.now.items c.args.changes.now.items c.args.c q c.args.j (recorded_where c.args.list.now.items c.args.i c.args.c c.requires.place c.requires.at))

pub returns-in-Err-clause-pending : goal.returns-in-Err-clause-pending
returns-in-Err-clause-pending c =
    let p = c.requires.pending in
    record {
      changes_rise = rw c.in-Err.ensures.err p.changes_rise;
      list_rises = λ _. rw c.remove-in-Err.ensures.items (order_remove c.args.list.now.items c.args.i c.requires.order);
      enough = rw c.in-Err.ensures.err (λ l. let h = p.enough l in omega (arith, h, c.remove-in-Err.ensures.len, c.defer.ensures.capacity));
    }

pub returns-in-Err-clause-order : goal.returns-in-Err-clause-order
returns-in-Err-clause-order c = rw c.remove-in-Err.ensures.items (order_remove c.args.list.now.items c.args.i c.requires.order)

pub returns-in-Err-clause-has : goal.returns-in-Err-clause-has
returns-in-Err-clause-has c = λ q.
    rw (c.in-Err.ensures.err, c.remove-in-Err.ensures.items)
    (list_less c.args.list.now.items c.args.changes.now.items c.args.c q c.args.i c.requires.order c.requires.place c.requires.at
    (recorded_between c.args.changes.now.items c.args.j c.args.c c.requires.changes_at))
