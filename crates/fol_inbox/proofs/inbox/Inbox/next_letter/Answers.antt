use Rattle.std.proofs.Common.{◌≡◌, [], sym, subst}
use Rattle.crossbeam_queue.specs.Fifo.{Pops}
use Rattle.fol_inbox.specs.declared.notes.Notes.{Notes}
use Rattle.fol_inbox.specs.Notes.{notes_taken}
use Rattle.fol_inbox.specs.Rule.{IsLetter, Ruled}
use Rattle.fol_inbox.proofs.Steps.{takes}
use Rattle.fol_inbox.proofs.inbox.Inbox.next_letter.Goals as goal

pub pop_as-requires-clause-rule : goal.pop_as-requires-clause-rule
pop_as-requires-clause-rule g c =
    let v = c.args.pass.now.me.view.client in
    (subst (λ (v : Notes). Pops Ruled c.args.pass.now.id v (λ x w. (w ≡ notes_taken v x) × IsLetter v.dealt x)) (sym c.requires.notes) (takes c.args.pass.now.id v.dealt v.taken []), λ items views h at. tt)
