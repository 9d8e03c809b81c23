-- Publications, their history, and its rule.
use Rattle.std.specs.Prelude.{ℕ, ◌≡◌, ◌≤◌, ◌==◌, true, List, [], ◌∷◌, ◌++◌, length, MatchBool, All}
use Rattle.logbook.specs.Pages.{Book, Cell, Named, Step, View}
use Rattle.fol_lock.specs.Log.{StartsWith}
use Rattle.fol_model.specs.declared.closings.OwnerRow.{OwnerRow}
use Rattle.fol_model.specs.declared.events.Entry.{Entry}
use Rattle.fol_model.specs.declared.openings.Opening.{Opening}
use Rattle.fol_model.specs.Outputs.{owner_rows}
use Rattle.fol_model.specs.Run.{world}

pub record Publication : Type 0 where
  -- how much of the history it is after
  pub front : ℕ
  -- the owners then
  pub rows : List OwnerRow

abbrev pub publication : ℕ → List OwnerRow → Publication
publication front rows = record { front = front; rows = rows }

-- the length of a history, and the owners after it
abbrev pub publication_of : Opening → List Entry → Publication
publication_of o h = publication (length h) (owner_rows (world o h))

-- it is the publication of a beginning of what was seen
pub record IsPublication (o : Opening) (seen : List Entry) (p : Publication) : Type 0 where
  pub prefix : List Entry
  pub starts : StartsWith seen prefix
  pub is : p ≡ publication_of o prefix

-- fronts never fall
abbrev pub Rises : List Publication → Type 0
Rises [] = Unit {0}
Rises (p ∷ ps) = All (λ (q : Publication). p.front ≤ q.front) ps × Rises ps

-- no front is above that of p
abbrev pub MayFollow : List Publication → Publication → Type 0
MayFollow list p = All (λ (q : Publication). q.front ≤ p.front) list

-- the publication is the last of the list
abbrev pub IsLast : List Publication → Publication → Type 0
IsLast list p = (others : List Publication) × (list ≡ others ++ p ∷ [])

-- the front of the last of the list
abbrev pub IsLastFront : List Publication → ℕ → Type 0
IsLastFront list front = (p : Publication) × IsLast list p × (front ≡ p.front)

-- which history of publications, and those that are known of it
pub record Listed : Type 0 where
  pub book : Book
  pub list : List Publication

abbrev pub listed : Book → List Publication → Listed
listed book list = record { book = book; list = list }

pub record IsListed (count : ℕ) (list : List Publication) : Type 0 where
  pub count_is : count ≡ length list
  pub rises : Rises list

-- the first word is the length of the history; a book has two words, of which this one leaves the second at 0
pub record IsKept (cells : List Cell) (log : List Publication) : Type 0 where
  pub words : cells ≡ (length log, true) ∷ (0, true) ∷ []
  pub rises : Rises log

abbrev pub head_of : Book → Named
head_of b = record { tracked = true; key = 0; book = b }

-- the publication was added to all that was known; or the history was longer, and is known now
abbrev pub Adds : Step Publication → View Publication ℕ → ℕ → View Publication ℕ → Type 0
Adds s v found w = MatchBool (found == s.old) ((w.0 ≡ v.0 ++ s.ask ∷ []) × Rises w.0) ((length w.0 ≡ found) × Rises w.0)
