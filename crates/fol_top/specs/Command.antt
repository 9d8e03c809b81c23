-- Which words are a command, and what it asks for.
use Rattle.std.specs.Prelude.{ℕ, pos, Bool, true, false, not, ◌&&◌, ◌==◌, List, [], ◌∷◌, Option, Some, None, codes, if◌then◌else◌}
use Rattle.std.specs.Str.{bytes_eq}
use Rattle.fol_model.specs.declared.words.Reading.{Reading}
use Rattle.fol_model.specs.declared.words.Reading.TheVariants.{Is}
use Rattle.fol_model.specs.TextNumbers.{reading}
use Rattle.fol_top.specs.declared.form.Form.{Form}
use Rattle.fol_top.specs.declared.form.Form.TheVariants.{Text, Json}

-- the names of a world and of a script
pub record FileNames : Type 0 where
  pub world : List ℕ
  pub script : List ℕ

-- a run of two files by so many workers, to be written in this form; a check of the report of this name against two files; or a run of the made
-- texts of so many clusters
pub data Request : Type 0 where
  run : FileNames → ℕ → Form → Request
  check : FileNames → List ℕ → Request
  make : ℕ → Request

-- the names of the files that a request is about, in the order in which they are read
abbrev pub names_of : Request → List (List ℕ)
names_of (run names workers form) = names.world ∷ names.script ∷ []
names_of (check names report) = names.world ∷ names.script ∷ report ∷ []
names_of (make clusters) = []

-- not empty, and the first byte is not `-`
abbrev pub is_name : List ℕ → Bool
is_name [] = false
is_name (b ∷ bs) = not (b == 45)

-- `run WORLD SCRIPT`, and the two names are names
abbrev pub is_run : List ℕ → List ℕ → List ℕ → Bool
is_run command world script = bytes_eq command (codes "run") && (is_name world && is_name script)

-- `check WORLD SCRIPT REPORT`, and the three names are names
abbrev pub is_check : List ℕ → List ℕ → List ℕ → List ℕ → Bool
is_check command world script report = bytes_eq command (codes "check") && (is_name world && (is_name script && is_name report))

abbrev pub is_empty : List (List ℕ) → Bool
is_empty [] = true
is_empty (word ∷ words) = false

-- the number of workers that a word which reads so gives
abbrev pub workers_in : Reading → Option ℕ
workers_in (Is (pos n)) = Some n
workers_in _ = None

-- what `make` asks for with a word that reads so
abbrev pub make_of : Reading → Option Request
make_of (Is (pos n)) = Some (make n)
make_of _ = None

-- whether files are to be read
abbrev pub asks_for_files : Option Request → Bool
asks_for_files (Some (run names workers form)) = true
asks_for_files (Some (check names report)) = true
asks_for_files _ = false

-- the form that the words behind `run WORLD SCRIPT WORKERS` ask for
abbrev pub form_in : List (List ℕ) → Option Form
form_in [] = Some Text
form_in (form ∷ []) = if bytes_eq form (codes "json") then Some Json else None
form_in _ = None

abbrev pub run_of : FileNames → Option ℕ → Option Form → Option Request
run_of names (Some workers) (Some form) = Some (run names workers form)
run_of names _ _ = None

-- what `run WORLD SCRIPT WORKERS` asks for, with what stands behind it; None where the words are no such command
unfoldable pub run_asked : List ℕ → List ℕ → List ℕ → List ℕ → List (List ℕ) → Option Request
run_asked command world script workers more =
    if is_run command world script then run_of (record { world = world; script = script }) (workers_in (reading (pos 1) (pos 64) workers)) (form_in more) else None

-- what `check WORLD SCRIPT REPORT` asks for, with nothing behind it; None where the words are no such command
unfoldable pub check_asked : List ℕ → List ℕ → List ℕ → List ℕ → List (List ℕ) → Option Request
check_asked command world script report more =
    if is_check command world script report && is_empty more then Some (check (record { world = world; script = script }) report) else None

-- what `run WORLD SCRIPT WORKERS`, `run WORLD SCRIPT WORKERS json`, `check WORLD SCRIPT REPORT` or `make N` asks for, with WORKERS from 1 to 64 and N from
-- 1 to 500; None where the words are no command
abbrev pub request_in : List (List ℕ) → Option Request
request_in (command ∷ number ∷ []) = if bytes_eq command (codes "make") then make_of (reading (pos 1) (pos 500) number) else None
request_in (command ∷ world ∷ script ∷ last ∷ more) =
    if bytes_eq command (codes "check") then check_asked command world script last more else run_asked command world script last more
request_in _ = None
