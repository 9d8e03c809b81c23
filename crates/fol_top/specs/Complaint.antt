-- What is told to the sink of errors.
use Rattle.std.specs.Prelude.{ℕ, ◌≡◌, ◌≢◌, ◌⊎◌, ◌++◌, Bool, true, false, List, [], Option, Some, None, nat_eq, codes, decimal, if◌then◌else◌}
use Rattle.fol_model.specs.declared.causes.Cause.{Cause}
use Rattle.fol_model.specs.declared.causes.Cause.TheVariants.{Text, Word, Order, Count, Nest, Number, Range, Twice, Total, Missing}
use Rattle.fol_io.specs.Sink.{Takes}
use Rattle.fol_io.specs.declared.sink.Put.{Put}
use Rattle.fol_top.specs.declared.ending.Status.{Status}
use Rattle.fol_top.specs.declared.ending.Ending.{Ending}
use Rattle.fol_top.specs.declared.ending.Ending.TheVariants as endings

abbrev pub cause_word : Cause → List ℕ
cause_word Text = codes "text"
cause_word Word = codes "word"
cause_word Order = codes "order"
cause_word Count = codes "count"
cause_word Nest = codes "nest"
cause_word Number = codes "number"
cause_word Range = codes "range"
cause_word Twice = codes "twice"
cause_word Total = codes "total"
cause_word Missing = codes "missing"

abbrev pub cause_text : Option Cause → List ℕ
cause_text None = []
cause_text (Some cause) = cause_word cause

-- `fol: TEXT line N CAUSE` and the end of the line
abbrev pub bad_line_text : List ℕ → ℕ → Option Cause → List ℕ
bad_line_text text line cause = codes "fol: " ++ text ++ codes " line " ++ decimal line ++ codes " " ++ cause_text cause ++ codes "\n"

-- `fol: TEXT N` and the end of the line
abbrev pub numbered_text : List ℕ → ℕ → List ℕ
numbered_text text number = codes "fol: " ++ text ++ codes " " ++ decimal number ++ codes "\n"

-- the text of a status; there is none at code 0
abbrev pub text_of : Status → List ℕ
text_of s =
    if nat_eq s.code 2 then codes "fol: words\n"
    else (if nat_eq s.code 3 then bad_line_text (codes "world") s.line s.cause
    else (if nat_eq s.code 4 then bad_line_text (codes "script") s.line s.cause
    else (if nat_eq s.code 5 then codes "fol: read fault\n"
    else (if nat_eq s.code 6 then codes "fol: write fault\n"
    else (if nat_eq s.code 7 then codes "fol: no memory\n"
    else (if nat_eq s.code 8 then codes "fol: too long\n"
    else (if nat_eq s.code 10 then numbered_text (codes "text line") s.line
    else (if nat_eq s.code 11 then numbered_text (codes "event") s.line
    else (if nat_eq s.code 12 then numbered_text (codes "state line") s.line
    else [])))))))))

-- a sink was given the text in one put: it received it, or a prefix of it where its count of faults rose
abbrev pub Puts : Option (List ℕ) → Option (List ℕ) → ℕ → ℕ → List ℕ → Type 0
Puts before now faults later text = (answer : Put) × Takes before now faults later text answer

-- nothing at code 0, and else the text of the status
pub record Complains (before now : Option (List ℕ)) (faults later : ℕ) (s : Status) : Type 0 where
  pub nothing : s.code ≡ 0 → now ≡ before
  pub text : s.code ≢ 0 → Puts before now faults later (text_of s)

-- its text has a number
abbrev pub has_number : Ending → Bool
has_number (endings.World line cause) = true
has_number (endings.Script line cause) = true
has_number (endings.ReportText line) = true
has_number (endings.ReportEvent number) = true
has_number (endings.ReportState line) = true
has_number _ = false

-- the ending that is told: out of memory may take the place of one whose text has a number
abbrev pub IsTold : Ending → Ending → Type 0
IsTold ending told = (told ≡ ending) ⊎ ((has_number ending ≡ true) × (told ≡ endings.NoMemory))
