-- What the reader of a script keeps of the lines before a line.
use Rattle.std.specs.Prelude.{◌≡◌, ℕ, ◌≤◌, ◌+◌, Bool, true, false, List, [], ◌∷◌, ◌++◌, Option, Some, None, cond}
use Rattle.std.specs.List.{sum_by}
use Rattle.fol_model.specs.declared.words.TextKind.{TextKind}
use Rattle.fol_model.specs.declared.words.TextKind.TheVariants as kinds
use Rattle.fol_model.specs.declared.words.Keyword.{Keyword}
use Rattle.fol_model.specs.declared.words.Keyword.TheVariants as keys
use Rattle.fol_model.specs.declared.words.Cell.{Cell}
use Rattle.fol_model.specs.declared.causes.Cause.{Cause}
use Rattle.fol_model.specs.declared.causes.Cause.TheVariants as causes
use Rattle.fol_model.specs.TextCauses.{Row, is_key, count_key, ticks, times, row_of, cause_of, first_cause, is_too_much}
use Rattle.fol_script.specs.declared.script_lines.Before.{Before}
use Rattle.fol_script.specs.declared.taken.Taken.{Taken}
use Rattle.fol_script.specs.declared.taken.Taken.TheVariants as taken

abbrev pub is_script : TextKind → Bool
is_script kinds.World = false
is_script kinds.ScriptOne = true
is_script kinds.ScriptTwo = true

-- a `run` stands in a run, or an `end` outside one
abbrev pub misplaced : Bool → Keyword → Bool
misplaced running key = cond running (is_key keys.Run key) (is_key keys.End key)

-- what is kept stands for these rows
pub record Stands (rows : List Row) (b : Before) : Type 0 where
  pub alternate : count_key keys.Run rows ≡ count_key keys.End rows + cond b.running 1 0
  pub ticks : b.ticks ≡ sum_by ticks rows
  pub times : b.times ≡ sum_by times rows
  pub few_ticks : b.ticks ≤ 10000
  pub few_times : b.times ≤ 1000000

-- one more row, behind any rows that the reader stands for
abbrev pub TakesRow : Row → Before → Before → Option Cause → Type 0
TakesRow row old new c = (rows : List Row) → Stands rows old → (c ≡ first_cause ((is_too_much rows row, causes.Total) ∷ [])) × (c ≡ None → Stands (rows ++ row ∷ []) new)

-- what was made of a line, behind these rows
abbrev pub Makes : TextKind → List ℕ → List Row → Before → List Cell → Taken → Type 0
Makes kind l rows new cs (taken.Bad c) = cause_of kind rows l ≡ Some c
Makes kind l rows new cs (taken.Row key) = (cause_of kind rows l ≡ None) × (key ≡ (row_of kind l).key) × (cs ≡ (row_of kind l).cells) × Stands (rows ++ row_of kind l ∷ []) new

-- one more line, behind any rows that the reader stands for
abbrev pub TakesLine : TextKind → List ℕ → Before → Before → List Cell → Taken → Type 0
TakesLine kind l old new cs t = (rows : List Row) → Stands rows old → Makes kind l rows new cs t
