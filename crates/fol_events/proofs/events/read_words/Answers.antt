use Rattle.std.proofs.Common.{◌∷◌, ◌∙◌, sym, ap}
use Rattle.fol_model.specs.LineWords.{Word}
use Rattle.fol_events.proofs.FirstWords.{head_is, no_head, no_event}
use Rattle.fol_events.proofs.events.read_words.Goals as goal

pub returns-in-None-clause-none : goal.returns-in-None-clause-none
returns-in-None-clause-none c k e r eq = no_head c.in_ok-word.word.now c.next.new.self (sym c.in-None.ensures) e (sym c.in_ok-word.ensures.found ∙ eq)

pub returns-in-Some-clause-found : goal.returns-in-Some-clause-found
returns-in-Some-clause-found c = rw c.in_ok-word.ensures.found (rw (head_is c.in_ok-word.word.now c.in-Some.head (sym c.in-Some.ensures)) c.body.ensures.found)

pub returns-in-Some-clause-none : goal.returns-in-Some-clause-none
returns-in-Some-clause-none c k e r eq =
    let first = head_is c.in_ok-word.word.now c.in-Some.head (sym c.in-Some.ensures) in
    no_event c.in-Some.head c.next.new.self (c.body.ensures.none k) e r (ap (λ (w : Word). w ∷ c.next.new.self) (sym first) ∙ sym c.in_ok-word.ensures.found ∙ eq)
