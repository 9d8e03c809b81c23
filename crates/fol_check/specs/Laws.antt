-- What holds of the check of reports.
use Rattle.std.specs.Prelude.{ℕ, ◌≡◌, ◌≤◌, List, length}
use Rattle.std.specs.List.{AllByRecursion}
use Rattle.fol_model.specs.Legal.{Legal as IsLegalHistory}
use Rattle.fol_model.specs.GridNumbers.{IsGrid}
use Rattle.fol_model.specs.Nesting.{deed_of}
use Rattle.fol_model.specs.Outputs.{Outputs}
use Rattle.fol_model.specs.Report.{report_text}
use Rattle.fol_model.specs.declared.openings.Opening.{Opening}
use Rattle.fol_model.specs.declared.scripts.Command.{Command}
use Rattle.fol_model.specs.declared.scripts.Command.TheVariants as commands
use Rattle.fol_model.specs.declared.closings.Closing.{Closing}
use Rattle.fol_model.specs.declared.events.Entry.{Entry}
use Rattle.fol_model.specs.declared.events.Event.{Event}
use Rattle.fol_model.specs.declared.events.Event.TheVariants.{Post}
use Rattle.fol_events.specs.InRange.{PlainInRange}
use Rattle.fol_check.specs.Verdicts.{Judges}
use Rattle.fol_check.specs.declared.verdicts.Verdict.{Verdict}
use Rattle.fol_check.specs.declared.verdicts.Verdict.TheVariants.{Legal}

-- one verdict at most fits a report
abbrev pub OneVerdict : Type 0
OneVerdict = (o : Opening) (script : List Command) (bytes : List ℕ) (v w : Verdict) → Judges o script bytes v → Judges o script bytes w → v ≡ w

-- the entity that a post sends, if it sends one, has a number of 32 bits
abbrev pub PostIsShort : Event → Type 0
PostIsShort (Post caller c d a answer) = PlainInRange (deed_of a).plain
PostIsShort _ = Unit {0}

-- so has that which a command sends
abbrev pub CommandIsShort : Command → Type 0
CommandIsShort (commands.Post c d a) = PlainInRange (deed_of a).plain
CommandIsShort (commands.Every c d p count a) = PlainInRange (deed_of a).plain
CommandIsShort _ = Unit {0}

abbrev pub IsShortScript : List Command → Type 0
IsShortScript script = AllByRecursion CommandIsShort script

-- the bytes are the report of a legal history of the script, whoever recorded its entries
pub record IsReport (o : Opening) (script : List Command) (bytes : List ℕ) : Type 0 where
  pub history : List Entry
  pub closing : Closing
  pub legal : IsLegalHistory o script 64 history
  pub outputs : Outputs o history closing
  pub text : bytes ≡ report_text closing

-- a report of a legal history is found legal, and nothing else is
abbrev pub LegalReports : Type 0
LegalReports = (o : Opening) (script : List Command) (bytes : List ℕ) → IsGrid o.grid → IsShortScript script → length bytes ≤ 16777216
    → (Judges o script bytes Legal → IsReport o script bytes) × (IsReport o script bytes → Judges o script bytes Legal)
