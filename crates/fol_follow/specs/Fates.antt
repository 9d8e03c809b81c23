-- What becomes of an ask that was queued.
use Rattle.std.specs.Prelude.{ℕ, ◌≡◌, ◌+◌, ◌-◌, Bool, false, nat_eq, nat_lt, if◌then◌else◌, List, ◌∷◌, ◌++◌, count_by, Option, Some, None}
use Rattle.std.specs.Option.{option_map, is_some}
use Rattle.fol_model.specs.declared.places.BlockPos.{BlockPos}
use Rattle.fol_model.specs.declared.openings.Opening.{Opening}
use Rattle.fol_follow.specs.declared.entries.Visit as rows
use Rattle.fol_follow.specs.declared.entries.Asked.TheVariants.{Queued}
use Rattle.fol_follow.specs.declared.entries.BookEvent.{BookEvent}
use Rattle.fol_follow.specs.declared.entries.BookEvent.TheVariants.{Ask, Visit}
use Rattle.fol_follow.specs.declared.entries.BookEntry.{BookEntry}
use Rattle.fol_follow.specs.Here.{place_in}
use Rattle.fol_follow.specs.Visits.{IsRun, Pending, book_after, visit_at, visit_in}

-- where the event finds the entity
abbrev pub found_at : BookEvent → ℕ → Option BlockPos
found_at (Ask entity delay answer) id = None
found_at (Visit region begun here visits) id = place_in here id

-- the visit that the event makes under this number
abbrev pub visit_made : BookEvent → ℕ → Option rows.Visit
visit_made (Ask entity delay answer) n = None
visit_made (Visit region begun here visits) n = visit_in visits n

-- how many visits among these have the entity
abbrev pub visits_of : ℕ → List BookEntry → ℕ
visits_of id es = count_by (λ (e : BookEntry). is_some (found_at e.event id)) es

abbrev pub ask_entry : ℕ → ℕ → ℕ → ℕ → BookEntry
ask_entry by entity delay n = record { by = by; event = Ask entity delay (Queued n) }

-- the ask is visited by the visit that is the delay-th one behind it with its entity, at the block where this finds it, and by no other event; and
-- where there were fewer, it is still queued
pub record IsFollowed (before since : List BookEntry) (by entity delay n : ℕ) : Type 0 where
  pub left : (book_after (before ++ ask_entry by entity delay n ∷ since)).asks n
      ≡ (if nat_lt (visits_of entity since) delay then Some (record { entity = entity; rest = delay - visits_of entity since }) else None)
  pub visited : (mid rest : List BookEntry) (e : BookEntry) → since ≡ mid ++ e ∷ rest
      → visit_made e.event n ≡ (if nat_eq (visits_of entity mid + 1) delay then option_map (visit_at n entity) (found_at e.event entity) else None)
  pub not_before : (mid rest : List BookEntry) (e : BookEntry) → before ≡ mid ++ e ∷ rest → visit_made e.event n ≡ None

abbrev pub AsksAreFollowed : Type 0
AsksAreFollowed = (o : Opening) (before since : List BookEntry) (by entity delay n : ℕ) → IsRun o (before ++ ask_entry by entity delay n ∷ since)
    → IsFollowed before since by entity delay n
