-- A script's text read in shares, each by itself.
use Rattle.std.specs.Prelude.{◌≡◌, ℕ, All, true, false, List, [], ◌∷◌, ◌++◌, map, None, Result, Ok, Err, Vec}
use Rattle.fol_model.specs.declared.words.TextKind.{TextKind}
use Rattle.fol_model.specs.declared.scripts.Command.{Command}
use Rattle.fol_model.specs.TextLines.{lines, kept}
use Rattle.fol_model.specs.TextCauses.{Row}
use Rattle.fol_model.specs.TextRows.{IsRow, row_line, Follow}
use Rattle.fol_model.specs.Texts.{command_row}
use Rattle.fol_script.specs.declared.script_lines.Before.{Before}
use Rattle.fol_script.specs.ScriptBefore.{Stands, TakesRow, is_script, misplaced}

-- the lines that are not skipped are the spellings of these rows, and each row has a form of this text, whatever their order
pub record SpellEach (kind : TextKind) (ls : List (List ℕ)) (rows : List Row) : Type 0 where
  pub lines : kept ls ≡ map row_line rows
  pub forms : All (IsRow kind) rows

-- one more line, behind any lines that these commands stand for
abbrev pub AddsLine : TextKind → List ℕ → List Command → List Command → Type 0
AddsLine kind l cs ds = (ls : List (List ℕ)) → SpellEach kind ls (map command_row cs) → SpellEach kind (ls ++ l ∷ []) (map command_row ds)

-- these rows stand for the lines of the text before the rest
pub record ReadsOn (kind : TextKind) (text rest : List ℕ) (rows : List Row) : Type 0 where
  pub done : List (List ℕ)
  pub all : done ++ lines rest ≡ lines text
  pub each : SpellEach kind done rows

-- the commands of a share that was read
abbrev pub commands_of : {A E : Type 0} → Result (Vec Command A) E → List Command
commands_of (Ok commands) = commands.items
commands_of (Err e) = []

-- where each of these rows has a form of a script's text, they may stand in it in this order
abbrev pub AreInOrder : List Row → Type 0
AreInOrder rows = (kind : TextKind) → is_script kind ≡ true → All (IsRow kind) rows → Follow kind [] rows

-- these rows are in order so far, and this is kept of them
pub record LeadOn (rows : List Row) (b : Before) : Type 0 where
  pub stands : Stands rows b
  pub on : (kind : TextKind) → is_script kind ≡ true → All (IsRow kind) rows → (more : List Row) → Follow kind rows more → Follow kind [] (rows ++ more)

-- the row may stand behind any rows that the reader stands for
abbrev pub MayFollow : Row → Before → Before → Type 0
MayFollow row old new = (misplaced old.running row.key ≡ false) × TakesRow row old new None
