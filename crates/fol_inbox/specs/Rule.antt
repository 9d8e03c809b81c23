-- The rule of the queue. It holds between any two steps of all threads.
use Rattle.std.specs.Prelude.{◌≡◌, ℕ, ◌<◌, true, nat_eq, List, ◌++◌, filter, map, All, Contains, IsTrue}
use mathlib.Core.Option.{some}
use lib.ListN.{get_elem?}
use Rattle.fol_model.specs.Geometry.{is_chunk}
use Rattle.fol_model.specs.Limits.{is_action, is_delay, may_post}
use Rattle.fol_inbox.specs.declared.letter.Letter.{Letter}
use Rattle.fol_inbox.specs.declared.notes.Claim.{Claim}
use Rattle.fol_inbox.specs.declared.notes.Notes.{Notes}

-- the letters of one sender, in order
abbrev pub sent_by : ℕ → List Letter → List Letter
sent_by n letters = filter (λ (l : Letter). nat_eq l.sender n) letters

-- the world takes a post of it
abbrev pub CanPost : Letter → Type 0
CanPost l = IsTrue (is_chunk l.chunk) × IsTrue (is_delay l.delay) × IsTrue (is_action l.action) × IsTrue (may_post l.action)

-- and it is of a sender that was made
abbrev pub IsLetter : ℕ → Letter → Type 0
IsLetter dealt l = (l.sender < dealt) × CanPost l

-- what is claimed of a sender is all that it sent
abbrev pub HasSent : List Letter → Claim → Type 0
HasSent letters c = sent_by c.number letters ≡ c.sent

-- these are just the letters of the claims, each once, those of one sender in order
pub record AreSent (v : Notes) (letters : List Letter) : Type 0 where
  pub sent : All (HasSent letters) v.claims
  pub authors : All (IsLetter v.dealt) letters

-- each number below n is one of these senders
abbrev pub ClaimsAll : ℕ → List Claim → Type 0
ClaimsAll n claims = (k : ℕ) → k < n → Contains (map (λ (c : Claim). c.number) claims) k

-- what nobody notes
pub record Books : Type 0 where
  -- the letters that were taken, in order
  pub taken : List Letter
  -- how many senders were made
  pub dealt : ℕ
  -- the pass that takes
  pub drainer : ℕ
  -- the pass that has a sender's number
  pub owner : ℕ → ℕ

-- the pass has this sender, and the claim is right
module _ (dealt : ℕ) (owner : ℕ → ℕ) (letters : List Letter) (pass : ℕ) where
  pub record IsClaimed (c : Claim) : Type 0 where
    pub sent : HasSent letters c
    pub low : c.number < dealt
    pub owned : owner c.number ≡ pass

-- what the pass notes is right
module _ (books : Books) (items : List Letter) (pass : ℕ) where
  pub record Fits (v : Notes) : Type 0 where
    pub claims : All (IsClaimed books.dealt books.owner (books.taken ++ items) pass) v.claims
    pub drains : v.drains ≡ true → (pass ≡ books.drainer) × (v.taken ≡ books.taken) × (v.dealt ≡ books.dealt)
    pub alone : v.alone ≡ true → (pass ≡ books.drainer) × (v.rest ≡ items) × ((n : ℕ) → n < books.dealt → books.owner n ≡ pass)

pub record Ruled (items : List Letter) (views : List Notes) : Type 0 where
  pub books : Books
  pub authors : All (IsLetter books.dealt) (books.taken ++ items)
  pub each : (pass : ℕ) (v : Notes) → get_elem? views pass ≡ some v → Fits books items pass v
