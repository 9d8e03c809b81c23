-- What a book stands for.
use Rattle.std.specs.Prelude.{ℕ, ◌≡◌, true, false, List, [], ◌∷◌, ◌++◌}
use Rattle.fol_model.specs.declared.openings.Opening.{Opening}
use Rattle.fol_data.specs.declared.tick.Tick.{Tick}
use Rattle.fol_follow.specs.declared.entries.EntityAt.{EntityAt}
use Rattle.fol_follow.specs.declared.entries.BookEvent.{BookEvent}
use Rattle.fol_follow.specs.declared.entries.BookEvent.TheVariants.{Visit}
use Rattle.fol_follow.specs.declared.entries.BookEntry.{BookEntry}
use Rattle.fol_follow.specs.declared.entries.Visiting.{Visiting}
use Rattle.fol_follow.specs.declared.entries.Visiting.TheVariants.{Made, Again}
use Rattle.fol_follow.specs.Here.{AreHere}
use Rattle.fol_follow.specs.Visits.{has_visit}

pub record Meaning : Type 0 where
  pub opening : Opening
  pub history : List BookEntry

-- it stands for what it stood for
pub record Stays (old new : Meaning) : Type 0 where
  pub opening : new.opening ≡ old.opening
  pub history : new.history ≡ old.history

-- one entry more, by this seat
pub record Records (old new : Meaning) (by : ℕ) (event : BookEvent) : Type 0 where
  pub opening : new.opening ≡ old.opening
  pub history : new.history ≡ old.history ++ (record { by = by; event = event }) ∷ []

-- the visit of a tick was recorded, of which there was none; or there was one, and nothing was recorded
abbrev pub VisitRecords : Meaning → Meaning → ℕ → Tick → Visiting → Type 0
VisitRecords old new by tick (Made visits) =
    (has_visit old.history tick.region tick.begun ≡ false)
    × ((here : List EntityAt) × AreHere old.opening tick here × Records old new by (Visit tick.region tick.begun here visits))
VisitRecords old new by tick Again = (has_visit old.history tick.region tick.begun ≡ true) × Stays old new
