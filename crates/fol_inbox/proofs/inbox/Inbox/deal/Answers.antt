use Rattle.std.proofs.Common.{rules, ◌∙◌, ◌+◌, [], ap, sym, subst}
use Rattle.crossbeam_queue.specs.Fifo.{Forks}
use Rattle.fol_inbox.specs.declared.notes.Notes.{Notes}
use Rattle.fol_inbox.specs.Notes.{notes_dealing, notes_dealt}
use Rattle.fol_inbox.specs.Ids.{inbox_id}
use Rattle.fol_inbox.specs.Rule.{Ruled}
use Rattle.fol_inbox.specs.Sending.{AreNewSenders}
use Rattle.fol_inbox.proofs.Steps.{deals}
use Rattle.fol_inbox.proofs.Dealt.{one_more, shows_new}
use Rattle.fol_inbox.proofs.inbox.Inbox.deal.Goals as goal

pub another-pass-requires-clause-rule : goal.another-pass-requires-clause-rule
another-pass-requires-clause-rule c = subst (λ (v : Notes). Forks Ruled c.loop-number.first.id v (notes_dealing v) (notes_dealt v)) (sym c.loop-number.invariant.1) (deals c.loop-number.first.id c.loop-number.number [] [])

pub loop-number-preserved : goal.loop-number-preserved
loop-number-preserved c =
    let inv = c.loop-number.invariant in
    let made = c.another-pass.ensures in (
      made.queue.0,
      made.rule.0 ∙ ap notes_dealing inv.1,
      subst (AreNewSenders (inbox_id c.args.self.now) (c.loop-number.number + 1)) (sym c.push_reserved.ensures.items)
          (one_more (inbox_id c.args.self.now) c.loop-number.number c.loop-number.senders.items _ (shows_new (inbox_id c.args.self.now) c.loop-number.number c.another-pass.result made.queue.2.0.0 made.queue.2.0.1 (made.rule.1 ∙ ap notes_dealt inv.1)) inv.2),
      search rules,
    )
