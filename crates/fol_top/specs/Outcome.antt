-- What a status says of a run.
use Rattle.std.specs.Prelude.{ℕ, false, ◌≡◌, ◌≢◌, ◌≤◌, ◌<◌, ◌↔◌, ◌⊎◌, List, [], ◌∷◌, ◌++◌, Option, Some, None, length}
use Rattle.std.specs.List.{AllByRecursion, AllZip}
use Rattle.fol_model.specs.declared.causes.Cause.{Cause}
use Rattle.fol_model.specs.declared.openings.Opening.{Opening}
use Rattle.fol_model.specs.declared.scripts.Command.{Command}
use Rattle.fol_model.specs.declared.words.TextKind.TheVariants as kinds
use Rattle.fol_model.specs.TextCauses.{first_bad}
use Rattle.fol_model.specs.Texts.{IsWorldText, IsScriptText, script_kind}
use Rattle.fol_io.specs.Counts.{Rose}
use Rattle.fol_check.specs.Verdicts.{Judges}
use Rattle.fol_check.specs.declared.verdicts.Verdict.{Verdict}
use Rattle.fol_check.specs.declared.verdicts.Verdict.TheVariants as verdicts
use Rattle.fol_top.specs.Command.{Request, asks_for_files, make, names_of, request_in}
use Rattle.fol_top.specs.Ending.{numbered, plain}
use Rattle.fol_top.specs.Inputs.{Faulted, Faults, Held, Overlong, ReadingEnds, size_limit}
use Rattle.fol_top.specs.Report.{BadScript, BadWorld, IsReport, Judged, Written, WrittenInPart}
use Rattle.fol_top.specs.declared.ending.Status.{Status}
use Rattle.fol_top.specs.declared.form.Form.TheVariants as forms

-- what a run was given and left: its words, what the shelf holds, and of shelf and output the counts and bytes before and after
pub record Course : Type 0 where
  pub words : List (List ℕ)
  pub held : Held
  pub faults : Faults
  pub faults_later : Faults
  pub taken : ℕ
  pub taken_later : ℕ
  pub reads : ℕ
  pub reads_later : ℕ
  pub received : Option (List ℕ)
  pub received_later : Option (List ℕ)
  pub write_faults : ℕ
  pub write_faults_later : ℕ
  pub puts : ℕ
  pub puts_later : ℕ

-- the shelf was not read: it gave no byte and met no fault
pub record Untouched (v : Course) : Type 0 where
  pub reads : v.reads_later ≡ v.reads
  pub taken : v.taken_later ≡ v.taken
  pub faults : (name : List ℕ) → v.faults_later name ≡ v.faults name

-- the words ask for work on files, and the shelf tells that it holds these under their names, place by place, each within the limit
pub record Told (v : Course) (files : List (List ℕ)) : Type 0 where
  pub request : Request
  pub command : request_in v.words ≡ Some request
  pub held : AllZip (λ name bytes. (v.held name ≡ Some bytes) × (length bytes ≤ size_limit)) (names_of request) files

-- the shelf tells bytes that are more than the limit
abbrev pub IsLong : Option (List ℕ) → Type 0
IsLong held = (bytes : List ℕ) × (held ≡ Some bytes) × (size_limit < length bytes)

-- the words ask for work on files, and the shelf tells that one of them is longer than the limit; these are the ones before it and behind it
pub record TellsLong (v : Course) : Type 0 where
  pub request : Request
  pub command : request_in v.words ≡ Some request
  pub before : List (List ℕ)
  pub name : List ℕ
  pub behind : List (List ℕ)
  pub order : names_of request ≡ before ++ name ∷ behind
  pub long : IsLong (v.held name)

-- the reading ended with a fault of the long file, or of one before it
abbrev pub FaultedBefore : (v : Course) → TellsLong v → Type 0
FaultedBefore v tells = ReadingEnds v.held v.reads v.reads_later (tells.before ++ tells.name ∷ []) (λ name. Rose (v.faults name) (v.faults_later name))

-- all files that the words name are told and short enough, the first two are texts, these are the others, and no device met a fault
pub record WorksWell (v : Course) (others : List (List ℕ)) : Type 0 where
  pub world_bytes : List ℕ
  pub script_bytes : List ℕ
  pub told : Told v (world_bytes ∷ script_bytes ∷ others)
  pub opening : Opening
  pub world_text : IsWorldText world_bytes opening
  pub script : List Command
  pub script_text : IsScriptText opening.version script_bytes script
  pub reads : AllByRecursion (λ name. ¬ Rose (v.faults name) (v.faults_later name)) (names_of told.request)
  pub writes : ¬ Rose v.write_faults v.write_faults_later

-- the words are a `make`, and the output met no fault
pub record MakesWell (v : Course) : Type 0 where
  pub clusters : ℕ
  pub command : request_in v.words ≡ Some (make clusters)
  pub writes : ¬ Rose v.write_faults v.write_faults_later

-- a fault of the shelf came before, or memory ran out
abbrev pub Yields : Status → Type 0
Yields s = (s.code ≡ 5) ⊎ (s.code ≡ 7)

-- the status tells this line and this cause with this code
pub record Tells (s : Status) (code line : ℕ) (why : Cause) : Type 0 where
  pub code_is : s.code ≡ code
  pub line_is : s.line ≡ line
  pub cause_is : s.cause ≡ Some why

-- the status that a verdict gives
abbrev pub verdict_status : Verdict → Status
verdict_status verdicts.Legal = plain 0
verdict_status (verdicts.Text line) = numbered 10 line
verdict_status (verdicts.Event number) = numbered 11 number
verdict_status (verdicts.State line) = numbered 12 line

pub record Outcome (v : Course) (s : Status) : Type 0 where
  pub known : (s.code ≤ 12) × (s.code ≢ 1) × (s.code ≢ 9)
  -- 0: the whole output was written: of `run` the report, or its JSON form, of one legal history of what the two files spell, of `make` the summary of
  -- one of the made texts, and of `check` that the third file is such a report
  pub ok : s.code ≡ 0 → Written v.words v.held v.received v.received_later
  -- 2: exactly where the words are no command
  pub no_command : (s.code ≡ 2) ↔ (request_in v.words ≡ None)
  -- 3 and 4: this is the first bad line of the world, or of the script of a world that has none
  pub bad_world : s.code ≡ 3 → BadWorld v.words v.held s.line s.cause
  pub bad_script : s.code ≡ 4 → BadScript v.words v.held s.line s.cause
  -- 5 and 8: the shelf's count of a file rose, or it has more bytes than the limit; the files before it were read within the limit, and none
  -- behind it was read
  pub read_fault : s.code ≡ 5 → Faulted v.words v.held v.faults v.faults_later v.reads v.reads_later
  pub too_long : s.code ≡ 8 → Overlong v.words v.held v.taken v.taken_later v.reads v.reads_later
  -- 6: the sink's count rose, and it received whole pieces of such an output as at 0 and a prefix of the next
  pub write_fault : s.code ≡ 6 → WrittenInPart v.words v.held v.received v.received_later v.puts v.puts_later × Rose v.write_faults v.write_faults_later
  -- 10, 11 and 12: this is the verdict on the report
  pub no_text : s.code ≡ 10 → Judged v.words v.held (verdicts.Text s.line)
  pub no_event : s.code ≡ 11 → Judged v.words v.held (verdicts.Event s.line)
  pub no_state : s.code ≡ 12 → Judged v.words v.held (verdicts.State s.line)
  -- a bad line that the shelf tells is told, and the verdict on a report, and a file that is too long
  pub tells_world : (world : List ℕ) (others : List (List ℕ)) (line : ℕ) (why : Cause) → Told v (world ∷ others)
      → first_bad kinds.World world ≡ Some (line, why) → Tells s 3 line why ⊎ Yields s
  pub tells_script : (world script : List ℕ) (others : List (List ℕ)) (o : Opening) (line : ℕ) (why : Cause) → Told v (world ∷ script ∷ others) → IsWorldText world o
      → first_bad (script_kind o.version) script ≡ Some (line, why) → Tells s 4 line why ⊎ Yields s
  pub tells_verdict : (world script report : List ℕ) (o : Opening) (cs : List Command) (verdict : Verdict) → Told v (world ∷ script ∷ report ∷ []) → IsWorldText world o
      → IsScriptText o.version script cs → Judges o cs report verdict → (s ≡ verdict_status verdict) ⊎ (((verdict ≡ verdicts.Legal) × (s.code ≡ 6)) ⊎ Yields s)
  -- a report that a run with 64 workers may write is found legal
  pub tells_legal : (world script report : List ℕ) (o : Opening) (cs : List Command) → Told v (world ∷ script ∷ report ∷ []) → IsWorldText world o
      → IsScriptText o.version script cs → IsReport forms.Text o cs 64 report → (s ≡ plain 0) ⊎ ((s.code ≡ 6) ⊎ Yields s)
  -- where it is a file that is too long, no fault of a file behind it comes before
  pub tells_long : (tells : TellsLong v) → (s.code ≡ 8) ⊎ (((s.code ≡ 5) × FaultedBefore v tells) ⊎ (s.code ≡ 7))
  -- only a `run` or a `check` reads from the shelf
  pub untouched : asks_for_files (request_in v.words) ≡ false → Untouched v
  -- at every code but 0 and 6 the sink received nothing
  pub nothing : s.code ≢ 0 → s.code ≢ 6 → v.received_later ≡ v.received
  -- a cause comes with 3 and 4 alone, and a line, or the number of an event, with these and 10 to 12
  pub no_cause : s.code ≢ 3 → s.code ≢ 4 → s.cause ≡ None
  pub no_line : s.code ≢ 3 → s.code ≢ 4 → s.code ≤ 8 → s.line ≡ 0
  -- where all is well there is an output, or no memory; and of a `check` that, or a verdict on the report
  pub runs : WorksWell v [] → (s.code ≡ 0) ⊎ (s.code ≡ 7)
  pub checks : (report : List ℕ) → WorksWell v (report ∷ []) → ((s.code ≡ 0) ⊎ (s.code ≡ 7)) ⊎ (10 ≤ s.code)
  pub makes : MakesWell v → (s.code ≡ 0) ⊎ (s.code ≡ 7)
