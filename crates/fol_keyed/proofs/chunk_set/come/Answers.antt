use Rattle.std.proofs.Common.{inl, inr, arith}
use Rattle.fol_keyed.proofs.Answers.{on_both, on_ok, ok_or_err}
use Rattle.fol_keyed.proofs.OneMore.{order_insert, recorded_between}
use Rattle.fol_keyed.proofs.Pending.{list_more, changes_more}
use Rattle.fol_keyed.proofs.chunk_set.come.Goals as goal

pub returns-then-is_empty-clause-order : goal.returns-then-is_empty-clause-order
returns-then-is_empty-clause-order c = elim (ok_or_err c.insert.result _ _ c.insert.ensures.ok c.insert.ensures.err) [
  | inl e ↦ rw e (order_insert c.args.list.now.items c.args.i c.args.c c.requires.order c.requires.place c.requires.at)
  | inr e ↦ rw e c.requires.order
]

pub returns-then-is_empty-clause-has : goal.returns-then-is_empty-clause-has
returns-then-is_empty-clause-has c =
    let none = recorded_between c.args.changes.now.items c.args.j c.args.c c.requires.changes_at in
    on_ok c.insert.result _ _ c.insert.ensures.ok (λ e q. rw e (list_more c.args.list.now.items c.args.changes.now.items c.args.c q c.args.i none))

pub returns-else-len-lt-LONG-clause-pending : goal.returns-else-len-lt-LONG-clause-pending
returns-else-len-lt-LONG-clause-pending c =
    let p = c.requires.pending in
    let room = rw c.deref.ensures.value at c.defer.ensures.room in
    elim (ok_or_err c.defer.result _ _ (on_both c.defer.result _ _ c.defer.ensures.ok room) c.defer.ensures.err) [
      | inl e ↦ record {
        changes_rise = rw e.0 (order_insert c.args.changes.now.items c.args.j c.args.c p.changes_rise c.requires.changes_place c.requires.changes_at);
        list_rises = λ _. c.requires.order;
        enough = λ _. e.1;
      }
      | inr e ↦ record {
        changes_rise = rw e p.changes_rise;
        list_rises = λ _. c.requires.order;
        enough = rw e (λ l. let h = p.enough l in omega (arith, h, c.defer.ensures.capacity));
      }
    ]

pub returns-else-len-lt-LONG-clause-has : goal.returns-else-len-lt-LONG-clause-has
returns-else-len-lt-LONG-clause-has c =
    let none = recorded_between c.args.list.now.items c.args.i c.args.c c.requires.at in
    on_ok c.defer.result _ _ c.defer.ensures.ok (λ e q. rw e (changes_more c.args.list.now.items c.args.changes.now.items c.args.c q c.args.j none))
