-- What is left of an inbox.
use Rattle.std.specs.Prelude.{◌≡◌, Bool, true, false, List, [], ◌∷◌, ◌++◌, Option, Some, None}
use Rattle.fol_inbox.specs.declared.letter.Letter.{Letter}
use Rattle.fol_inbox.specs.declared.notes.Notes.{Notes}
use Rattle.fol_inbox.specs.Notes.{last_notes, notes_left}
use Rattle.fol_inbox.specs.Rule.{AreSent}
use Rattle.fol_inbox.specs.Sending.{InboxId, IsIdle, Pass}

-- the letter that was taken first, and what the queue holds
abbrev pub left : Pass → Option Letter → List Letter
left p (Some l) = l ∷ p.me.view.client.rest
left p None = p.me.view.client.rest

-- where a letter was taken, the pass knows what the queue holds, and else it holds nothing
abbrev pub KnowsRest : Pass → Bool → Type 0
KnowsRest p true = p.me.view.client ≡ last_notes p.me.view.client.dealt p.me.view.client.taken p.me.view.client.claims p.me.view.client.rest
KnowsRest p false = p.me.view.client.rest ≡ []

abbrev pub IsTaken : Option Letter → Bool → Type 0
IsTaken (Some l) found = found ≡ true
IsTaken None found = Unit {0}

pub record IsRest (queue : InboxId) (p : Pass) (first : Option Letter) (found : Bool) : Type 0 where
  pub web : p.web ≡ queue.web
  pub heap : p.heap ≡ queue.heap
  pub idle : IsIdle p
  pub knows : KnowsRest p found
  pub taken : IsTaken first found

-- the next letter was given, or there was none
abbrev pub GivesNext : List Letter → List Letter → Option Letter → Type 0
GivesNext old new (Some l) = old ≡ l ∷ new
GivesNext old new None = (old ≡ []) × (new ≡ [])

-- what the first pop of a pass that was joined with all senders' comes to
abbrev pub TakesOne : Notes → Notes → Option Letter → Type 0
TakesOne v w None = (w ≡ v) × AreSent v (v.taken ++ [])
TakesOne v w (Some x) = (w ≡ notes_left v x w.rest) × AreSent v ((v.taken ++ x ∷ []) ++ w.rest)
