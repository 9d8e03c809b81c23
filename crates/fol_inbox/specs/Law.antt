-- What became of all letters of an inbox.
use Rattle.std.specs.Prelude.{◌≡◌, ℕ, ◌<◌, List, All}
use Rattle.fol_inbox.specs.declared.letter.Letter.{Letter}
use Rattle.fol_inbox.specs.Rule.{sent_by}
use Rattle.fol_inbox.specs.Sending.{Sending}

-- the letters are just those that so many senders sent, each once, those of one sender in its order
pub record InboxLaw (count : ℕ) (senders : List Sending) (letters : List Letter) : Type 0 where
  pub sent : All (λ (s : Sending). sent_by s.number letters ≡ s.sends) senders
  pub others : All (λ (l : Letter). l.sender < count) letters
