-- What a board shows, and how the writer changes it.
use Rattle.std.specs.Prelude.{◌≡◌, List, [], ◌∷◌, ◌++◌, Option, Some, None}
use Rattle.logbook.specs.Pages.{Book}
use Rattle.fol_view.specs.Publications.{Listed, Publication, listed}

-- the last publication, and the publications up to it
pub record Showing : Type 0 where
  pub book : Book
  pub list : List Publication
  pub last : Publication

abbrev pub showing : Listed → Publication → Showing
showing all last = record { book = all.book; list = all.list; last = last }

-- the publications that are known to who looks
abbrev pub listed_of : Option Showing → Option Listed
listed_of None = None
listed_of (Some q) = Some (listed q.book q.list)

-- the board may come to show p
abbrev pub MayShow : Option Showing → Showing → Type 0
MayShow None p = Unit {0}
MayShow (Some q) p = q.book ≡ p.book

abbrev pub HasShown : Option Showing → Showing → Type 0
HasShown shown p = shown ≡ Some p

-- what was appended ends with something that may be shown
pub record CanPublish (shown : Option Showing) (appended : List Showing) : Type 0 where
  pub others : List Showing
  pub last : Showing
  pub is : appended ≡ others ++ last ∷ []
  pub may : MayShow shown last

-- the last of what was appended is shown
abbrev pub Published : List Showing → Option Showing → Option Listed → Type 0
Published appended shown v = (others : List Showing) (last : Showing) → appended ≡ others ++ last ∷ [] → (shown ≡ Some last) × (v ≡ listed_of (Some last))
