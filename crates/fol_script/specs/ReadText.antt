-- What the readers of whole texts tell.
use Rattle.std.specs.Prelude.{◌≡◌, ℕ, ◌+◌, List, ◌∷◌, ◌++◌, map, Option, Some, None}
use Rattle.fol_model.specs.declared.words.TextKind.{TextKind}
use Rattle.fol_model.specs.declared.causes.Cause.{Cause}
use Rattle.fol_model.specs.declared.scripts.Command.{Command}
use Rattle.fol_model.specs.TextLines.{kept}
use Rattle.fol_model.specs.TextCauses.{Row, row_of, bad_from}
use Rattle.fol_model.specs.Texts.{command_row}
use Rattle.fol_script.specs.declared.errors.ReadError.{ReadError}
use Rattle.fol_script.specs.declared.errors.ReadError.TheVariants.{BadLine, NoMemory}
use Rattle.fol_script.specs.declared.script_lines.Before.{Before}
use Rattle.fol_script.specs.ScriptBefore.{Stands}

-- the error names the first bad line and its cause, unless memory ran out
abbrev pub IsErrorAt : Option (ℕ × Cause) → ReadError → Type 0
IsErrorAt first (BadLine line cause) = first ≡ Some (line, cause)
IsErrorAt first NoMemory = Unit {0}

-- the rows of the lines that are left, behind rows that stand for the lines so far
abbrev pub all_rows : TextKind → List Row → List (List ℕ) → List Row
all_rows kind rows ls = rows ++ map (row_of kind) (kept ls)

-- what one more line makes of the commands: the same first bad line, and the same rows in the end
pub record Goes (kind : TextKind) (l : List ℕ) (cs ds : List Command) (new : Before) : Type 0 where
  pub stands : Stands (map command_row ds) new
  pub bad : (n : ℕ) (ls : List (List ℕ)) → bad_from kind (map command_row cs) n (l ∷ ls) ≡ bad_from kind (map command_row ds) (n + 1) ls
  pub rows : (ls : List (List ℕ)) → all_rows kind (map command_row cs) (l ∷ ls) ≡ all_rows kind (map command_row ds) ls

abbrev pub Leads : TextKind → List ℕ → List Command → List Command → Before → Option Cause → Type 0
Leads kind l cs ds new (Some c) = (n : ℕ) (ls : List (List ℕ)) → bad_from kind (map command_row cs) n (l ∷ ls) ≡ Some (n, c)
Leads kind l cs ds new None = Goes kind l cs ds new
