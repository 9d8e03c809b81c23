-- What is written: the report, the JSON text or the summary of a legal history, or that a report is one.
use Rattle.std.specs.Prelude.{ℕ, ◌≡◌, ◌⊎◌, List, [], ◌∷◌, ◌++◌, Option, Some, codes}
use Rattle.fol_model.specs.declared.openings.Opening.{Opening}
use Rattle.fol_model.specs.declared.scripts.Command.{Command}
use Rattle.fol_model.specs.declared.events.Entry.{Entry}
use Rattle.fol_model.specs.declared.closings.Closing.{Closing}
use Rattle.fol_model.specs.declared.words.TextKind.TheVariants as kinds
use Rattle.fol_model.specs.declared.causes.Cause.{Cause}
use Rattle.fol_model.specs.TextCauses.{first_bad}
use Rattle.fol_model.specs.Texts.{IsWorldText, IsScriptText, script_kind}
use Rattle.fol_model.specs.Legal.{Legal}
use Rattle.fol_model.specs.Outputs.{Outputs}
use Rattle.fol_model.specs.Report.{report_text}
use Rattle.fol_model.specs.JsonReport.{json_text}
use Rattle.fol_model.specs.Summary.{summary_text}
use Rattle.fol_model.specs.Run.{world}
use Rattle.fol_gen.specs.MadeTexts as made
use Rattle.fol_check.specs.Verdicts.{Judges}
use Rattle.fol_check.specs.declared.verdicts.Verdict.{Verdict}
use Rattle.fol_check.specs.declared.verdicts.Verdict.TheVariants as verdicts
use Rattle.fol_io.specs.Sink.{Received, ReceivedInPieces}
use Rattle.fol_top.specs.Command.{FileNames, make, request_in, run}
use Rattle.fol_top.specs.Inputs.{Held, Inputs}
use Rattle.fol_top.specs.Kept.{KeepsRules, KeepsTasks}
use Rattle.fol_top.specs.declared.form.Form.{Form}
use Rattle.fol_top.specs.declared.form.Form.TheVariants.{Text, Json, Summary}

-- the closing in this form
abbrev pub text_in : Form → Closing → List ℕ
text_in Text c = report_text c
text_in Json c = json_text c
text_in (Summary clusters) c = summary_text clusters c

-- the bytes are, in this form, the output of one legal history of the opening and the script, with so many workers; at each of its points
-- the region rules hold, and each task that it accepts is queued or ran once, in its due tick
pub record IsReport (form : Form) (o : Opening) (script : List Command) (workers : ℕ) (bytes : List ℕ) : Type 0 where
  pub history : List Entry
  pub closing : Closing
  pub legal : Legal o script workers history
  pub rules : (es rest : List Entry) → history ≡ es ++ rest → KeepsRules (world o es)
  pub tasks : KeepsTasks o history
  pub outputs : Outputs o history closing
  pub text : bytes ≡ text_in form closing

-- the first two of the files that the words name are the texts of this opening and this script, and these are the others
pub record Spelled (words : List (List ℕ)) (held : Held) (others : List (List ℕ)) (o : Opening) (script : List Command) : Type 0 where
  pub world_bytes : List ℕ
  pub script_bytes : List ℕ
  pub inputs : Inputs words held (world_bytes ∷ script_bytes ∷ others)
  pub world_text : IsWorldText world_bytes o
  pub script_text : IsScriptText o.version script_bytes script

-- the output of `run`: of the two files that the words name, in the form and with the number of workers that they ask for
pub record IsRunOutput (words : List (List ℕ)) (held : Held) (bytes : List ℕ) : Type 0 where
  pub names : FileNames
  pub workers : ℕ
  pub form : Form
  pub command : request_in words ≡ Some (run names workers form)
  pub opening : Opening
  pub script : List Command
  pub spelled : Spelled words held [] opening script
  pub report : IsReport form opening script workers bytes

-- a summary of the made texts of so many clusters, with four workers
pub record IsSummary (clusters : ℕ) (bytes : List ℕ) : Type 0 where
  pub opening : Opening
  pub script : List Command
  pub world_text : IsWorldText made.world_text opening
  pub script_text : IsScriptText 1 (made.script_text clusters) script
  pub report : IsReport (Summary clusters) opening script 4 bytes

-- the output of `make`: such a summary, for the number that the words give
pub record IsMakeOutput (words : List (List ℕ)) (bytes : List ℕ) : Type 0 where
  pub clusters : ℕ
  pub command : request_in words ≡ Some (make clusters)
  pub summary : IsSummary clusters bytes

-- the words are a `check`, whose third file is a report, and this is the verdict on it, of the script and the opening that the other two spell
pub record Judged (words : List (List ℕ)) (held : Held) (verdict : Verdict) : Type 0 where
  pub report : List ℕ
  pub opening : Opening
  pub script : List Command
  pub spelled : Spelled words held (report ∷ []) opening script
  pub judges : Judges opening script report verdict

-- the bytes say `legal` of a report, on which this is the verdict: a run with 64 workers may write it
pub record SaysLegal (o : Opening) (script : List Command) (report bytes : List ℕ) : Type 0 where
  pub verdict : Judges o script report verdicts.Legal
  pub legal : IsReport Text o script 64 report
  pub text : bytes ≡ codes "legal\n"

-- the output of `check`: of the report that is the third file, and of the opening and the script that the other two spell
pub record IsCheckOutput (words : List (List ℕ)) (held : Held) (bytes : List ℕ) : Type 0 where
  pub report : List ℕ
  pub opening : Opening
  pub script : List Command
  pub spelled : Spelled words held (report ∷ []) opening script
  pub says : SaysLegal opening script report bytes

-- the output that the words ask for
abbrev pub IsOutput : List (List ℕ) → Held → List ℕ → Type 0
IsOutput words held bytes = IsRunOutput words held bytes ⊎ (IsMakeOutput words bytes ⊎ IsCheckOutput words held bytes)

-- a sink received such an output, whole
pub record Written (words : List (List ℕ)) (held : Held) (before now : Option (List ℕ)) : Type 0 where
  pub bytes : List ℕ
  pub output : IsOutput words held bytes
  pub received : Received before now bytes

-- a sink received whole pieces of such an output and a prefix of the next
pub record WrittenInPart (words : List (List ℕ)) (held : Held) (before now : Option (List ℕ)) (puts later : ℕ) : Type 0 where
  pub bytes : List ℕ
  pub output : IsOutput words held bytes
  pub received : ReceivedInPieces before now puts later bytes

-- the world has a bad line, and this is the first, with its cause
pub record BadWorld (words : List (List ℕ)) (held : Held) (line : ℕ) (cause : Option Cause) : Type 0 where
  pub world_bytes : List ℕ
  pub others : List (List ℕ)
  pub inputs : Inputs words held (world_bytes ∷ others)
  pub why : Cause
  pub told : cause ≡ Some why
  pub first : first_bad kinds.World world_bytes ≡ Some (line, why)

-- the world is that of an opening; the script has a bad line in the opening's version, and this is the first, with its cause
pub record BadScript (words : List (List ℕ)) (held : Held) (line : ℕ) (cause : Option Cause) : Type 0 where
  pub world_bytes : List ℕ
  pub script_bytes : List ℕ
  pub others : List (List ℕ)
  pub inputs : Inputs words held (world_bytes ∷ script_bytes ∷ others)
  pub opening : Opening
  pub world_text : IsWorldText world_bytes opening
  pub why : Cause
  pub told : cause ≡ Some why
  pub first : first_bad (script_kind opening.version) script_bytes ≡ Some (line, why)
