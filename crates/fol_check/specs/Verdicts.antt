-- What the check of a report comes to.
use Rattle.std.specs.Prelude.{ℕ, ◌≡◌, ◌≢◌, ◌+◌, List, take, count_by, nat_eq}
use Rattle.std.specs.List.{common_prefix_len}
use Rattle.fol_model.specs.Report.{report_text}
use Rattle.fol_model.specs.declared.openings.Opening.{Opening}
use Rattle.fol_model.specs.declared.scripts.Command.{Command}
use Rattle.fol_model.specs.declared.closings.Closing.{Closing}
use Rattle.fol_model.specs.declared.events.Event.{Event}
use Rattle.fol_events.specs.Told.{IsFault, IsTold}
use Rattle.fol_check.specs.Replays.{Ends, StopsAt, entries}
use Rattle.fol_check.specs.declared.verdicts.Verdict.{Verdict}
use Rattle.fol_check.specs.declared.verdicts.Verdict.TheVariants.{Event as AtEvent, Legal, State, Text}

-- the line in which two texts differ first: one more than there are line feeds in what both begin with
abbrev pub differing_line : List ℕ → List ℕ → ℕ
differing_line a b = 1 + count_by (λ x. nat_eq x 10) (take (common_prefix_len nat_eq a b) a)

-- the bytes tell these events, which are a legal history, and are the report of it
pub record IsLegal (o : Opening) (script : List Command) (bytes : List ℕ) : Type 0 where
  pub events : List Event
  pub told : IsTold bytes (entries events)
  pub closing : Closing
  pub ends : Ends o script events closing
  pub text : bytes ≡ report_text closing

-- the bytes tell these events, which with event n are no longer the beginning of a history
pub record IsUnlawful (o : Opening) (script : List Command) (bytes : List ℕ) (n : ℕ) : Type 0 where
  pub events : List Event
  pub told : IsTold bytes (entries events)
  pub stops : StopsAt o script events n

-- the bytes tell these events, which are a legal history; its report is another, and l is the line in which it differs first
pub record IsUntrue (o : Opening) (script : List Command) (bytes : List ℕ) (l : ℕ) : Type 0 where
  pub events : List Event
  pub told : IsTold bytes (entries events)
  pub closing : Closing
  pub ends : Ends o script events closing
  pub other : bytes ≢ report_text closing
  pub line : l ≡ differing_line bytes (report_text closing)

abbrev pub Judges : Opening → List Command → List ℕ → Verdict → Type 0
Judges o script bytes Legal = IsLegal o script bytes
Judges o script bytes (Text l) = IsFault bytes l
Judges o script bytes (AtEvent n) = IsUnlawful o script bytes n
Judges o script bytes (State l) = IsUntrue o script bytes l

-- the bytes are the report of the closing, or differ from it first in this line
abbrev pub Compares : Closing → List ℕ → Verdict → Type 0
Compares c bytes Legal = bytes ≡ report_text c
Compares c bytes (State l) = (bytes ≢ report_text c) × (l ≡ differing_line bytes (report_text c))
Compares c bytes _ = ⊥
