-- What an ending says of a run of the program.
use Rattle.std.specs.Prelude.{ℕ, ◌≡◌, ◌⊎◌, Bool, false, not, ◌==◌, List, [], ◌∷◌, Option, Some, None, ◌&&◌, if◌then◌else◌}
use Rattle.fol_model.specs.declared.openings.Opening.{Opening}
use Rattle.fol_model.specs.declared.closings.Closing.{Closing}
use Rattle.fol_model.specs.declared.words.TextKind.TheVariants as kinds
use Rattle.fol_model.specs.TextCauses.{first_bad}
use Rattle.fol_model.specs.Texts.{IsWorldText}
use Rattle.fol_model.specs.Report.{report_text}
use Rattle.fol_io.specs.Counts.{Rose}
use Rattle.fol_io.specs.Shelf.{IsHeld, IsTooLong}
use Rattle.fol_io.specs.Sink.{Received, ReceivedInPieces}
use Rattle.fol_map.specs.Pictures.{IsPicture}
use Rattle.fol_report_reader.specs.Reports.{IsBadLine}
use Rattle.fol_map.specs.declared.endings.Ending.{Ending}
use Rattle.fol_map.specs.declared.endings.Ending.TheVariants.{Written, Words, World, ReadFault, WriteFault, NoMemory, TooLong, Report}

-- what a run was given and left: its words, what the shelf holds, and of shelf and output the counts and bytes before and after
pub record Course : Type 0 where
  pub words : List (List ℕ)
  pub held : List ℕ → Option (List ℕ)
  pub faults : List ℕ → ℕ
  pub faults_later : List ℕ → ℕ
  pub taken : ℕ
  pub taken_later : ℕ
  pub reads : ℕ
  pub reads_later : ℕ
  pub received : Option (List ℕ)
  pub received_later : Option (List ℕ)
  pub write_faults : ℕ
  pub write_faults_later : ℕ
  pub puts : ℕ
  pub puts_later : ℕ

-- not empty, and the first byte is not `-`
abbrev pub is_name : List ℕ → Bool
is_name [] = false
is_name (b ∷ bs) = not (b == 45)

-- the names of a world and of a report
pub record FileNames : Type 0 where
  pub world : List ℕ
  pub report : List ℕ

-- the names that words are; None where they are not two names
abbrev pub names_in : List (List ℕ) → Option FileNames
names_in (world ∷ report ∷ []) = if is_name world && is_name report then Some (record { world = world; report = report }) else None
names_in _ = None

-- the words are the names of a world and of a report
pub record Names (words : List (List ℕ)) : Type 0 where
  pub world : List ℕ
  pub report : List ℕ
  pub command : names_in words ≡ Some (record { world = world; report = report })

-- how many bytes a file may have
abbrev pub size_limit : ℕ
size_limit = 16777216

-- the words name files that hold these bytes, as far as the shelf tells
pub record Inputs (v : Course) (world report : List ℕ) : Type 0 where
  pub names : Names v.words
  pub world_held : IsHeld (v.held names.world) world
  pub report_held : IsHeld (v.held names.report) report

-- the bytes are the picture of a closing over this opening whose report this is
pub record IsDrawn (o : Opening) (report bytes : List ℕ) : Type 0 where
  pub closing : Closing
  pub over : closing.opening ≡ o
  pub text : report ≡ report_text closing
  pub picture : IsPicture closing bytes

-- and the opening is the one of this text
pub record IsDrawnOver (world report bytes : List ℕ) : Type 0 where
  pub opening : Opening
  pub text : IsWorldText world opening
  pub drawn : IsDrawn opening report bytes

-- the text is that of an opening, and the report is none: this is its first line that is not as it must be
pub record BadReport (world report : List ℕ) (line : ℕ) : Type 0 where
  pub opening : Opening
  pub text : IsWorldText world opening
  pub bad : IsBadLine report line

-- ---- how the drawing ends. What the sink received before and now, its counts of faults and of pieces before and later, and what is drawn

abbrev pub PutEnds : (List ℕ → Type 0) → Option (List ℕ) → Option (List ℕ) → ℕ → ℕ → ℕ → ℕ → Ending → Type 0
PutEnds IsThis before now faults later puts puts_later Written = (bytes : List ℕ) × IsThis bytes × Received before now bytes
PutEnds IsThis before now faults later puts puts_later WriteFault = (bytes : List ℕ) × IsThis bytes × ReceivedInPieces before now puts puts_later bytes × Rose faults later
PutEnds IsThis before now faults later puts puts_later NoMemory = now ≡ before
PutEnds IsThis before now faults later puts puts_later _ = ⊥

-- of a report over an opening
abbrev pub ReportEnds : Opening → List ℕ → Option (List ℕ) → Option (List ℕ) → ℕ → ℕ → ℕ → ℕ → Ending → Type 0
ReportEnds o report before now faults later puts puts_later (Report line) = IsBadLine report line × (now ≡ before)
ReportEnds o report before now faults later puts puts_later ending = PutEnds (IsDrawn o report) before now faults later puts puts_later ending

-- of a report over a world
abbrev pub TextsEnd : List ℕ → List ℕ → Option (List ℕ) → Option (List ℕ) → ℕ → ℕ → ℕ → ℕ → Ending → Type 0
TextsEnd world report before now faults later puts puts_later (World line cause) = (first_bad kinds.World world ≡ Some (line, cause)) × (now ≡ before)
TextsEnd world report before now faults later puts puts_later (Report line) = BadReport world report line × (now ≡ before)
TextsEnd world report before now faults later puts puts_later ending = PutEnds (IsDrawnOver world report) before now faults later puts puts_later ending

-- the words name files that hold texts with which the drawing ends so
pub record Came (v : Course) (ending : Ending) : Type 0 where
  pub world : List ℕ
  pub report : List ℕ
  pub inputs : Inputs v world report
  pub ends : TextsEnd world report v.received v.received_later v.write_faults v.write_faults_later v.puts v.puts_later ending

-- one of the two files that the words name meets a fact, and nothing was written
pub record OneFile (v : Course) (P : List ℕ → Type 0) : Type 0 where
  pub names : Names v.words
  pub fact : P names.world ⊎ P names.report
  pub nothing : v.received_later ≡ v.received

-- how the reading of one file can end the work: what the shelf holds, its count of faults before and after, and the count of bytes taken before and after
abbrev pub FileEnds : Option (List ℕ) → ℕ → ℕ → ℕ → ℕ → Ending → Type 0
FileEnds held faults faults_later taken taken_later ReadFault = Rose faults faults_later
FileEnds held faults faults_later taken taken_later TooLong = IsTooLong held size_limit taken taken_later
FileEnds held faults faults_later taken taken_later NoMemory = Unit {0}
FileEnds held faults faults_later taken taken_later _ = ⊥

-- one of two files meets a fact, and nothing was written
pub record OneOf (v : Course) (world report : List ℕ) (P : List ℕ → Type 0) : Type 0 where
  pub fact : P world ⊎ P report
  pub nothing : v.received_later ≡ v.received

-- the files of two names hold texts with which the drawing ends so
pub record FilesCame (v : Course) (world report : List ℕ) (ending : Ending) : Type 0 where
  pub world_bytes : List ℕ
  pub report_bytes : List ℕ
  pub world_held : IsHeld (v.held world) world_bytes
  pub report_held : IsHeld (v.held report) report_bytes
  pub ends : TextsEnd world_bytes report_bytes v.received v.received_later v.write_faults v.write_faults_later v.puts v.puts_later ending

-- how the work on the files of two names ends
abbrev pub FilesEnd : Course → List ℕ → List ℕ → Ending → Type 0
FilesEnd v world report Words = ⊥
FilesEnd v world report ReadFault = OneOf v world report (λ name. Rose (v.faults name) (v.faults_later name))
FilesEnd v world report TooLong = OneOf v world report (λ name. IsTooLong (v.held name) size_limit v.taken v.taken_later)
FilesEnd v world report NoMemory = v.received_later ≡ v.received
FilesEnd v world report ending = FilesCame v world report ending

-- the words name no files, nothing was read and nothing was written
pub record NoNames (v : Course) : Type 0 where
  pub none : names_in v.words ≡ None
  pub reads : v.reads_later ≡ v.reads
  pub nothing : v.received_later ≡ v.received

abbrev pub Outcome : Course → Ending → Type 0
Outcome v Words = NoNames v
Outcome v ReadFault = OneFile v (λ name. Rose (v.faults name) (v.faults_later name))
Outcome v TooLong = OneFile v (λ name. IsTooLong (v.held name) size_limit v.taken v.taken_later)
Outcome v NoMemory = v.received_later ≡ v.received
Outcome v ending = Came v ending
