-- What the bytes of a report tell of its events: the history, or the first line that is not as it must be.
use Rattle.std.specs.Prelude.{◌≡◌, ℕ, ◌+◌, ◌<◌, ◌≤◌, ◌⊎◌, List, ◌∷◌, [], ◌++◌, length, codes, decimal}
use Rattle.fol_model.specs.declared.events.Event.{Event}
use Rattle.fol_model.specs.declared.events.Entry.{Entry}
use Rattle.fol_model.specs.LineWords.{line, lines_of, part}
use Rattle.fol_model.specs.ReportWords.{event_words, entry_words}
use Rattle.fol_events.specs.declared.reading.EventLines.{EventLines}
use Rattle.fol_events.specs.declared.reading.EventLines.TheVariants.{Events, Text}
use Rattle.fol_events.specs.InRange.{InRange, AllInRange}

-- the head of the report of this history, and its event lines
abbrev pub events_text : List Entry → List ℕ
events_text h = codes "report 1\n" ++ part (codes "events") entry_words h

-- the line that tells how many event lines follow
abbrev pub count_line : ℕ → List ℕ
count_line n = line (codes "events" ∷ decimal n ∷ [])

-- the bytes begin with the head, a count n and the lines of these events, and go on with the rest
pub record Begins (bytes : List ℕ) (n : ℕ) (h : List Entry) (rest : List ℕ) : Type 0 where
  pub few : n ≤ 16777216
  pub text : bytes ≡ codes "report 1\n" ++ (count_line n ++ (lines_of entry_words h ++ rest))
  pub in_range : AllInRange h

-- ---- the line that comes next is not as it must be

abbrev pub NoHead : List ℕ → Type 0
NoHead bytes = (rest : List ℕ) → bytes ≡ codes "report 1\n" ++ rest → ⊥

abbrev pub NoCount : List ℕ → Type 0
NoCount bytes = (n : ℕ) (rest : List ℕ) → n ≤ 16777216 → bytes ≡ count_line n ++ rest → ⊥

-- it is no line of any event
abbrev pub NoEvent : List ℕ → Type 0
NoEvent bytes = (e : Event) (rest : List ℕ) → InRange e → bytes ≡ line (event_words e) ++ rest → ⊥

-- ---- the first line that is not as it must be

pub record FaultInHead (bytes : List ℕ) (l : ℕ) : Type 0 where
  pub place : l ≡ 1
  pub none : NoHead bytes

pub record FaultInCount (bytes : List ℕ) (l : ℕ) : Type 0 where
  pub place : l ≡ 2
  pub rest : List ℕ
  pub text : bytes ≡ codes "report 1\n" ++ rest
  pub none : NoCount rest

pub record FaultInEvents (bytes : List ℕ) (l : ℕ) : Type 0 where
  pub count : ℕ
  pub history : List Entry
  pub rest : List ℕ
  pub begins : Begins bytes count history rest
  pub more : length history < count
  pub place : l ≡ length history + 3
  pub none : NoEvent rest

abbrev pub IsFault : List ℕ → ℕ → Type 0
IsFault bytes l = FaultInHead bytes l ⊎ (FaultInCount bytes l ⊎ FaultInEvents bytes l)

-- ---- the events

pub record IsTold (bytes : List ℕ) (h : List Entry) : Type 0 where
  pub few : length h ≤ 16777216
  pub in_range : AllInRange h
  pub rest : List ℕ
  pub text : bytes ≡ events_text h ++ rest

abbrev pub Tells : List ℕ → EventLines → Type 0
Tells bytes (Events h) = IsTold bytes h
Tells bytes (Text l) = IsFault bytes l

-- ---- what n lines tell, in the bytes behind the count

pub record Reads (text : List ℕ) (n : ℕ) (h : List Entry) : Type 0 where
  pub in_range : AllInRange h
  pub all : length h ≡ n
  pub rest : List ℕ
  pub text_is : text ≡ lines_of entry_words h ++ rest

pub record Stops (text : List ℕ) (n l : ℕ) : Type 0 where
  pub history : List Entry
  pub rest : List ℕ
  pub in_range : AllInRange history
  pub more : length history < n
  pub place : l ≡ length history + 3
  pub text_is : text ≡ lines_of entry_words history ++ rest
  pub none : NoEvent rest

abbrev pub Continues : ℕ → List ℕ → EventLines → Type 0
Continues n text (Events h) = Reads text n h
Continues n text (Text l) = Stops text n l
