use Rattle.std.proofs.Common.{◌≡◌, ◌∙◌, ℕ, List, ◌++◌, sym, ap, subst}
use Rattle.fol_inbox.specs.declared.letter.Letter.{Letter}
use Rattle.fol_inbox.specs.declared.notes.Notes.{Notes}
use Rattle.fol_inbox.specs.Draining.{Draining}
use Rattle.fol_inbox.specs.Letters.{held_list}
use Rattle.fol_inbox.specs.Rest.{left}
use Rattle.fol_inbox.specs.Rule.{AreSent}
use Rattle.fol_inbox.specs.Sending.{AreAllSenders}
use Rattle.fol_inbox.proofs.Closing.{all_claims, law_of, left_sent}
use Rattle.fol_inbox.proofs.inbox.Inbox.close.Goals as goal

pub take_first-first-requires-clause-all : goal.take_first-first-requires-clause-all
take_first-first-requires-clause-all g c =
    let d = c.drainer.inside.pass.me.view.client in
    let v = c.gather-pass.result.me.view.client in
    let n : d.dealt ≡ c.args.drainer.senders = ap (λ (x : Draining). x.senders) c.drainer.view_is in
    all_claims v.dealt v.claims c.args.senders.items (subst (λ (n : ℕ). AreAllSenders n c.args.senders.items) (sym (ap (λ (h : Notes). h.dealt) c.gather-pass.ensures.notes ∙ n)) c.requires.all) c.gather-pass.ensures.claims

pub returns-clause-law : goal.returns-clause-law
returns-clause-law g c =
    let d = c.drainer.inside.pass.me.view.client in
    let v = c.gather-pass.result.me.view.client in
    let notes = c.gather-pass.ensures.notes in
    let rest = left c.take_first-first.new.pass c.take_first-first.result in
    let taken : d.taken ≡ c.args.drainer.letters ++ held_list c.drainer.inside.held = subst (λ (x : Draining). d.taken ≡ x.letters ++ held_list c.drainer.inside.held) c.drainer.view_is c.drainer.invariant.taken in
    let dealt : d.dealt ≡ c.args.drainer.senders = ap (λ (x : Draining). x.senders) c.drainer.view_is in
    let sent : AreSent v (v.taken ++ rest) = left_sent v c.take_first-first.new.pass c.take_first-first.result (ap (λ (h : Notes). h.rest) notes) c.take_first-first.ensures.taken in
    law_of v c.args.drainer.senders c.args.drainer.letters rest c.drainer.inside.held c.args.senders.items (ap (λ (h : Notes). h.taken) notes ∙ taken) (ap (λ (h : Notes). h.dealt) notes ∙ dealt) sent c.gather-pass.ensures.claims
