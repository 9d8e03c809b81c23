use Rattle.std.proofs.Common.{rules, ◌≡◌, ◌∷◌, Bool, true, sym, subst}
use Rattle.crossbeam_queue.specs.Fifo.{Pops, Learns}
use Rattle.fol_inbox.specs.declared.notes.Notes.{Notes}
use Rattle.fol_inbox.specs.Notes.{notes_left}
use Rattle.fol_inbox.specs.Rest.{KnowsRest}
use Rattle.fol_inbox.specs.Rule.{Ruled}
use Rattle.fol_inbox.proofs.Steps.{learns_next, takes_next}
use Rattle.fol_inbox.proofs.close.Rest.next.Goals as goal

pub pop_as-requires-clause-rule : goal.pop_as-requires-clause-rule
pop_as-requires-clause-rule g c =
    let s = c.self.inside in
    let v = s.pass.me.view.client in
    let found : s.found ≡ true = search rules in
    let knows = subst (λ (b : Bool). KnowsRest s.pass b) found c.self.invariant.knows in
    subst (λ (v : Notes). Pops Ruled s.pass.id v (λ x w. (v.rest ≡ x ∷ w.rest) × (w ≡ notes_left v x w.rest)) × Learns Ruled s.pass.id v (λ items. v.rest ≡ items)) (sym knows)
    (takes_next s.pass.id v.dealt v.taken v.claims v.rest, learns_next s.pass.id v.dealt v.taken v.claims v.rest)
