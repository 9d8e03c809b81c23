use Rattle.std.proofs.Common.{◌≡◌, [], ◌∷◌, ◌++◌, sym, subst}
use Rattle.crossbeam_queue.specs.Fifo.{Pops, Learns}
use Rattle.fol_inbox.specs.declared.notes.Notes.{Notes}
use Rattle.fol_inbox.specs.Notes.{notes_left}
use Rattle.fol_inbox.specs.Rule.{AreSent, Ruled}
use Rattle.fol_inbox.proofs.Steps.{learns_first, takes_first}
use Rattle.fol_inbox.proofs.gather.take_first.Goals as goal

pub pop_as-requires-clause-rule : goal.pop_as-requires-clause-rule
pop_as-requires-clause-rule g c =
    let p = c.args.pass.now in
    let v = p.me.view.client in
    subst (λ (h : Notes). Pops Ruled p.id h (λ x w. (w ≡ notes_left h x w.rest) × AreSent h ((h.taken ++ x ∷ []) ++ w.rest)) × Learns Ruled p.id h (λ items. AreSent h (h.taken ++ items)))
    (sym c.requires.notes) (takes_first p.id v.dealt v.taken v.claims c.requires.all, learns_first p.id v.dealt v.taken v.claims)
