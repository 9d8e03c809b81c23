use Rattle.std.proofs.Common.{◌≡◌, ◌∙◌, List, [], ◌∷◌, ◌++◌, length, sym, ap, subst, arith, append_assoc, Some}
use Rattle.std.proofs.lemmas.List.Elements.{All-pop, All-same}
use Rattle.crossbeam_queue.specs.Fifo.{Merges}
use Rattle.fol_inbox.specs.declared.notes.Notes.{Notes}
use Rattle.fol_inbox.specs.Notes.{notes_joined, spent_notes, drainer_notes}
use Rattle.fol_inbox.specs.Rule.{Ruled}
use Rattle.fol_inbox.specs.Sending.{Sending, HasClaim}
use Rattle.fol_inbox.proofs.Steps.{gathers}
use Rattle.fol_inbox.proofs.Closing.{more_claims, no_items}
use Rattle.fol_inbox.proofs.gather.gather.Goals as goal

pub absorb-requires-clause-rule : goal.absorb-requires-clause-rule
absorb-requires-clause-rule c =
    let v = c.loop-sender.pass in
    let w = c.sender.inside.pass in
    subst (λ (x : Notes × Notes). Merges Ruled v.id x.0 w.id x.1 (notes_joined x.0 x.1) spent_notes) (λ i. (sym c.loop-sender.invariant.notes i, sym c.sender.invariant.notes i))
    (gathers v.id c.args.pass.me.view.client.dealt c.args.pass.me.view.client.taken v.me.view.client.claims w.id c.sender.inside.number _)

pub loop-sender-preserved : goal.loop-sender-preserved
loop-sender-preserved c =
    let inv = c.loop-sender.invariant in
    let v = c.loop-sender.pass.me.view.client in
    let w = c.sender.inside.pass.me.view.client in
    let is : c.absorb.new.pass.me.view.client ≡ drainer_notes c.args.pass.me.view.client.dealt c.args.pass.me.view.client.taken (v.claims ++ w.claims)
    = c.absorb.ensures.rule ∙ ap (λ (h : Notes). notes_joined h w) inv.notes in
    let claims = ap (λ (h : Notes). h.claims) is ∙ ap (λ (h : Notes). v.claims ++ h.claims) c.sender.invariant.notes in record {
      pass = c.absorb.ensures.queue.0;
      notes = is ∙ ap (λ (h : Notes). drainer_notes c.args.pass.me.view.client.dealt c.args.pass.me.view.client.taken h.claims) (sym is);
      inboxes = (All-pop (λ (s : Sending). s.inbox ≡ c.args.queue.now) _ _ (Some c.in-Some.sender) c.in-Some.ensures.items inv.inboxes).0;
      done = c.in-Some.sender ∷ inv.done;
      all = inv.all ∙ (ap (λ (xs : List Sending). xs ++ inv.done) c.in-Some.ensures.items ∙ append_assoc c.pop.new.self.items (c.in-Some.sender ∷ []) inv.done);
      have = more_claims v.claims c.absorb.new.pass.me.view.client.claims c.sender.inside.number _ c.in-Some.sender inv.done claims (ap (λ (s : Sending). s.number) c.sender.view_is) (ap (λ (s : Sending). s.sends) c.sender.view_is) inv.have;
    }

pub returns-clause-claims : goal.returns-clause-claims
returns-clause-claims c =
    let inv = c.loop-sender.invariant in
    let empty : c.loop-sender.senders.items ≡ [] = no_items c.loop-sender.senders.items (let none : length c.loop-sender.senders.items ≡ 0 = grind (arith, c.in_default.ensures.cases.0) in none) in
    All-same (HasClaim c.loop-sender.pass.me.view.client.claims) c.args.senders.items inv.done (inv.all ∙ ap (λ (xs : List Sending). xs ++ inv.done) empty) inv.have
