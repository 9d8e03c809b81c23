use Rattle.std.proofs.Common.{◌≡◌, ℕ, sym, refl, subst}
use Rattle.crossbeam_queue.specs.Fifo.{Pushes}
use Rattle.fol_inbox.specs.declared.notes.Notes.{Notes}
use Rattle.fol_inbox.specs.Notes.{notes_sent}
use Rattle.fol_inbox.specs.Letters.{letter}
use Rattle.fol_inbox.specs.Rule.{Ruled}
use Rattle.fol_inbox.proofs.Steps.{sends}
use Rattle.fol_inbox.proofs.inbox.Inbox.send.Goals as goal

pub push_as-requires-clause-rule : goal.push_as-requires-clause-rule
push_as-requires-clause-rule g c =
    let s = c.sender.inside in
    let x = letter s.number s.next c.args.c c.args.delay c.args.action in
    subst (λ (v : Notes). (n : ℕ) → Pushes Ruled n s.pass.id v x (λ w. w ≡ notes_sent v x)) (sym c.sender.invariant.notes)
    (λ n. sends n s.pass.id s.number _ x refl (c.requires.in_range, c.requires.delay, c.requires.action, c.requires.may_be_posted))
