-- What is told of an ending, and its code.
use Rattle.std.specs.Prelude.{ℕ, ◌≡◌, ◌⊎◌, Bool, true, false, List, [], ◌++◌, Option, codes, decimal}
use Rattle.fol_model.specs.declared.causes.Cause.{Cause}
use Rattle.fol_model.specs.declared.causes.Cause.TheVariants as causes
use Rattle.fol_io.specs.Sink.{Takes}
use Rattle.fol_io.specs.declared.sink.Put.{Put}
use Rattle.fol_map.specs.declared.endings.Ending.{Ending}
use Rattle.fol_map.specs.declared.endings.Ending.TheVariants.{Written, Words, World, ReadFault, WriteFault, NoMemory, TooLong, Report}

abbrev pub code_of : Ending → ℕ
code_of Written = 0
code_of Words = 2
code_of (World line cause) = 3
code_of ReadFault = 5
code_of WriteFault = 6
code_of NoMemory = 7
code_of TooLong = 8
code_of (Report line) = 10

abbrev pub cause_word : Cause → List ℕ
cause_word causes.Text = codes "text"
cause_word causes.Word = codes "word"
cause_word causes.Order = codes "order"
cause_word causes.Count = codes "count"
cause_word causes.Nest = codes "nest"
cause_word causes.Number = codes "number"
cause_word causes.Range = codes "range"
cause_word causes.Twice = codes "twice"
cause_word causes.Total = codes "total"
cause_word causes.Missing = codes "missing"

abbrev pub world_text : ℕ → Cause → List ℕ
world_text line cause = codes "fol-map: world line " ++ decimal line ++ codes " " ++ cause_word cause ++ codes "\n"

abbrev pub report_text : ℕ → List ℕ
report_text line = codes "fol-map: report line " ++ decimal line ++ codes "\n"

-- the text of an ending; there is none where the whole picture was written
abbrev pub text_of : Ending → List ℕ
text_of Written = []
text_of Words = codes "fol-map: words\n"
text_of (World line cause) = world_text line cause
text_of ReadFault = codes "fol-map: read fault\n"
text_of WriteFault = codes "fol-map: write fault\n"
text_of NoMemory = codes "fol-map: no memory\n"
text_of TooLong = codes "fol-map: too long\n"
text_of (Report line) = report_text line

-- a sink was given the text in one put: it received it, or a prefix of it where its count of faults rose
abbrev pub Puts : Option (List ℕ) → Option (List ℕ) → ℕ → ℕ → List ℕ → Type 0
Puts before now faults later text = (answer : Put) × Takes before now faults later text answer

-- nothing where the picture was written, and else the text of the ending
abbrev pub Complains : Option (List ℕ) → Option (List ℕ) → ℕ → ℕ → Ending → Type 0
Complains before now faults later Written = now ≡ before
Complains before now faults later ending = Puts before now faults later (text_of ending)

-- its text has a number
abbrev pub has_number : Ending → Bool
has_number (World line cause) = true
has_number (Report line) = true
has_number _ = false

-- the ending that is told: out of memory may take the place of one whose text has a number
abbrev pub IsTold : Ending → Ending → Type 0
IsTold ending told = (told ≡ ending) ⊎ ((has_number ending ≡ true) × (told ≡ NoMemory))
