-- What contracts see of a world whose ticks are claimed.
use Rattle.std.specs.Prelude.{ℕ, List, []}
use Rattle.atomic_table.specs.Seated.{TableId}
use Rattle.fol_model.specs.declared.openings.Opening.{Opening}
use Rattle.fol_model.specs.declared.events.Entry.{Entry}
use Rattle.fol_core.specs.Meaning.{Meaning, Nothing}
use Rattle.fol_offers.specs.Shown as offers

pub record Shown : Type 0 where
  pub opening : Opening
  pub history : List Entry
  -- which slots its ticks are offered in
  pub slots : TableId
  -- how many workers may claim them; their numbers begin with 1
  pub workers : ℕ

-- which ticks are offered, and for what memory is there, is no part of it
abbrev pub shown : offers.Shown → Shown
shown s = record { opening = s.core.opening; history = s.core.history; slots = s.slots; workers = s.workers }

-- what a core stands for that has just this history
abbrev pub meaning_of : Shown → Meaning
meaning_of s = record { opening = s.opening; history = s.history; prepared = []; room = Nothing }

-- the world of an opening, before any event
abbrev pub first : Opening → TableId → ℕ → Shown
first opening slots workers = record { opening = opening; history = []; slots = slots; workers = workers }
