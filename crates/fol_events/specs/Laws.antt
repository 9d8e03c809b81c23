-- What holds of the lines of events.
use Rattle.std.specs.Prelude.{◌≡◌, ℕ, ◌≤◌, List, ◌++◌, length}
use Rattle.fol_model.specs.declared.events.Event.{Event}
use Rattle.fol_model.specs.declared.events.Entry.{Entry}
use Rattle.fol_model.specs.ReportWords.{event_words}
use Rattle.fol_report_laws.specs.Laws.{events}
use Rattle.fol_events.specs.InRange.{InRange, AllInRange}
use Rattle.fol_events.specs.Told.{events_text, IsFault}

-- two events in range with the same words are the same
abbrev pub OneEvent : Type 0
OneEvent = (d e : Event) → InRange d → InRange e → event_words d ≡ event_words e → d ≡ e

-- bytes begin with the event lines of one history, but for the seats
abbrev pub OneHistory : Type 0
OneHistory = (bytes : List ℕ) (g h : List Entry) (r s : List ℕ) → length g ≤ 16777216 → length h ≤ 16777216 → AllInRange g → AllInRange h → bytes ≡ events_text g ++ r → bytes ≡ events_text h ++ s → (events g ≡ events h) × (r ≡ s)

-- bytes with a fault do not begin with the event lines of a history in range
abbrev pub NoFault : Type 0
NoFault = (bytes : List ℕ) (l : ℕ) (h : List Entry) (rest : List ℕ) → IsFault bytes l → length h ≤ 16777216 → AllInRange h → bytes ≡ events_text h ++ rest → ⊥

-- bytes of the length of a file begin with few event lines
abbrev pub FewEvents : Type 0
FewEvents = (bytes : List ℕ) (h : List Entry) (rest : List ℕ) → length bytes ≤ 16777216 → bytes ≡ events_text h ++ rest → length h ≤ 16777216
