-- What a look-up finds.
use Rattle.std.specs.Prelude.{◌≡◌, ◌≤◌, List, All, Option, Some, None}
use Rattle.logbook.specs.Pages.{Book}
use Rattle.fol_lock.specs.Log.{StartsWith}
use Rattle.fol_model.specs.declared.places.SectionPos.{SectionPos}
use Rattle.fol_view.specs.Rows.{owner_in}
use Rattle.fol_view.specs.Publications.{IsLast, Listed, Publication, Rises}
use Rattle.fol_view.specs.Boards.{Showing}
use Rattle.fol_view.specs.declared.board.Found.{Found}
use Rattle.fol_view.specs.declared.board.SeenOwner.{SeenOwner}

-- something of this history is shown
abbrev pub HasBook : Option Showing → Book → Type 0
HasBook None book = ⊥
HasBook (Some q) book = q.book ≡ book

-- one knows publications of this history
abbrev pub KnowsBook : Option Listed → Book → Type 0
KnowsBook None book = ⊥
KnowsBook (Some l) book = l.book ≡ book

-- the answer is that of this publication
pub record IsOf (p : Publication) (s : SectionPos) (a : SeenOwner) : Type 0 where
  pub front : a.front ≡ p.front
  pub owner : a.owner ≡ owner_in p.rows s

-- the look-up is of the last of the new list, which begins with the old one
pub record Answers (old new : List Publication) (s : SectionPos) (a : SeenOwner) : Type 0 where
  pub goes_on : StartsWith new old
  pub rises : Rises new
  pub publication : Publication
  pub last : IsLast new publication
  pub is : IsOf publication s a

abbrev pub Finds : Listed → SectionPos → Found → Type 0
Finds known s f = (f.all.book ≡ known.book) × Answers known.list f.all.list s f.seen

-- a look that found something
abbrev pub Looks : Listed → SectionPos → Option Found → Type 0
Looks known s None = Unit {0}
Looks known s (Some f) = Finds known s f

-- ---- laws

-- the front of a look-up is not below that of any publication of the list before it or after
abbrev pub FrontsNeverFall : Type 0
FrontsNeverFall = (old new : List Publication) (s : SectionPos) (a : SeenOwner) → Answers old new s a
    → All (λ (p : Publication). p.front ≤ a.front) old × All (λ (p : Publication). p.front ≤ a.front) new
