-- What is wrong with a line, by its words and the lines before it, and the first bad line of a text.
use Rattle.std.specs.Prelude.{ℕ, ℤ, pos, nat_abs, Bool, true, false, cond, not, ◌&&◌, ◌||◌, nat_lt, ◌+◌, List, [], ◌∷◌, ◌++◌, get_or, take, map, Option, Some, None, if◌then◌else◌, is_none}
use Rattle.std.specs.List.{list_any, sum_by, count_by}
use Rattle.std.specs.Cmp.Lexicographic.{pointwise}
use Rattle.std.specs.Ordering.{int_eq}
use Rattle.fol_model.specs.declared.words.Keyword.{Keyword}
use Rattle.fol_model.specs.declared.words.Keyword.TheVariants as keys
use Rattle.fol_model.specs.declared.words.TextKind.{TextKind}
use Rattle.fol_model.specs.declared.words.TextKind.TheVariants as kinds
use Rattle.fol_model.specs.declared.words.Field.{Field}
use Rattle.fol_model.specs.declared.words.Field.TheVariants as fields
use Rattle.fol_model.specs.declared.words.Cell.{Cell}
use Rattle.fol_model.specs.declared.words.Cell.TheVariants as cells
use Rattle.fol_model.specs.declared.words.Reading.{Reading}
use Rattle.fol_model.specs.declared.words.Reading.TheVariants as readings
use Rattle.fol_model.specs.declared.causes.Cause.{Cause}
use Rattle.fol_model.specs.declared.causes.Cause.TheVariants as causes
use Rattle.fol_model.specs.TextLines.{lines, is_skipped, words, is_text}
use Rattle.fol_model.specs.TextNumbers.{reading}
use Rattle.fol_model.specs.TextForms.{key_of, line_form, action_form}

-- ---- the words in their places

abbrev pub form_of : (Keyword → Option (List Field)) → Option Keyword → Option (List Field)
form_of form None = None
form_of form (Some key) = form key

abbrev pub or_nothing : Option (List Field) → List Field
or_nothing None = []
or_nothing (Some ps) = ps

-- what follows this action word
abbrev pub after_action : List ℕ → List Field
after_action w = or_nothing (form_of action_form (key_of w))

-- each word with its place, as far as words and places go; behind an action word stands what follows it
abbrev pub placed : List Field → List (List ℕ) → List (Field × List ℕ)
placed [] ws = []
placed (p ∷ ps) [] = []
placed (fields.Number low high ∷ ps) (w ∷ ws) = (fields.Number low high, w) ∷ placed ps ws
placed (fields.Action ∷ ps) (w ∷ ws) = (fields.Action, w) ∷ placed (after_action w) ws

-- each word has a place, and each place a word
abbrev pub fills : List Field → List (List ℕ) → Bool
fills [] [] = true
fills [] (w ∷ ws) = false
fills (p ∷ ps) [] = false
fills (fields.Number low high ∷ ps) (w ∷ ws) = fills ps ws
fills (fields.Action ∷ ps) (w ∷ ws) = fills (after_action w) ws

-- ---- a word in its place

abbrev pub is_no_action : Field × List ℕ → Bool
is_no_action (fields.Action, w) = is_none (form_of action_form (key_of w))
is_no_action (fields.Number low high, w) = false

abbrev pub is_post : Option Keyword → Bool
is_post (Some keys.Post) = true
is_post _ = false

abbrev pub is_every : Option Keyword → Bool
is_every (Some keys.Every) = true
is_every _ = false

-- a `post` in the place of an action word; `every` is no action word
abbrev pub is_nested : Field × List ℕ → Bool
is_nested (fields.Action, w) = is_post (key_of w)
is_nested (fields.Number low high, w) = false

abbrev pub is_no_reading : Reading → Bool
is_no_reading readings.NoNumber = true
is_no_reading _ = false

abbrev pub is_outside_reading : Reading → Bool
is_outside_reading readings.Outside = true
is_outside_reading _ = false

abbrev pub is_no_number : Field × List ℕ → Bool
is_no_number (fields.Action, w) = false
is_no_number (fields.Number low high, w) = is_no_reading (reading low high w)

abbrev pub is_outside : Field × List ℕ → Bool
is_outside (fields.Action, w) = false
is_outside (fields.Number low high, w) = is_outside_reading (reading low high w)

-- ---- a line as a row: its line word, and what its further words are

pub record Row : Type 0 where
  pub key : Keyword
  pub cells : List Cell

abbrev pub key_or : Option Keyword → Keyword
key_or None = keys.End
key_or (Some key) = key

abbrev pub number_or : Reading → ℤ
number_or (readings.Is z) = z
number_or _ = pos 0

abbrev pub cell_of : Field × List ℕ → Cell
cell_of (fields.Action, w) = cells.Word (key_or (key_of w))
cell_of (fields.Number low high, w) = cells.Number (number_or (reading low high w))

abbrev pub first_word : List (List ℕ) → List ℕ
first_word [] = []
first_word (w ∷ ws) = w

abbrev pub more_words : List (List ℕ) → List (List ℕ)
more_words [] = []
more_words (w ∷ ws) = ws

-- what follows the line word; None where there is no line word of this text
abbrev pub form_at : TextKind → List ℕ → Option (List Field)
form_at kind line = form_of (line_form kind) (key_of (first_word (words line)))

abbrev pub placed_in : TextKind → List ℕ → List (Field × List ℕ)
placed_in kind line = placed (or_nothing (form_at kind line)) (more_words (words line))

abbrev pub row_of : TextKind → List ℕ → Row
row_of kind line = record { key = key_or (key_of (first_word (words line))); cells = map cell_of (placed_in kind line) }

-- ---- a row among the rows before it

abbrev pub is_key : Keyword → Keyword → Bool
is_key keys.World keys.World = true
is_key keys.Grid keys.Grid = true
is_key keys.Block keys.Block = true
is_key keys.Entity keys.Entity = true
is_key keys.Run keys.Run = true
is_key keys.Every keys.Every = true
is_key keys.End keys.End = true
is_key _ _ = false

abbrev pub count_key : Keyword → List Row → ℕ
count_key key rows = count_by (λ r. is_key key r.key) rows

-- there is a run without its end
abbrev pub is_running : List Row → Bool
is_running rows = nat_lt (count_key keys.End rows) (count_key keys.Run rows)

abbrev pub is_out_of_order : TextKind → List Row → Row → Bool
is_out_of_order kinds.World [] row = not (is_key keys.World row.key)
is_out_of_order kinds.World (r ∷ []) row = not (is_key keys.Grid row.key)
is_out_of_order kinds.World (r ∷ s ∷ rows) row = is_key keys.World row.key || is_key keys.Grid row.key
is_out_of_order kind rows row = if is_running rows then is_key keys.Run row.key else is_key keys.End row.key

abbrev pub cell_number : Cell → ℤ
cell_number (cells.Number z) = z
cell_number (cells.Word key) = pos 0

abbrev pub numbers : Row → List ℤ
numbers row = map cell_number row.cells

-- a row of this key with the same first n numbers
abbrev pub stood : Keyword → ℕ → List Row → Row → Bool
stood key n rows row = is_key key row.key && list_any (λ r. is_key key r.key && pointwise int_eq (take n (numbers r)) (take n (numbers row))) rows

-- a block's position, or an entity's id
abbrev pub is_twice : List Row → Row → Bool
is_twice rows row = stood keys.Block 3 rows row || stood keys.Entity 1 rows row

-- the size of the n-th number, from 0
abbrev pub number_at : ℕ → Row → ℕ
number_at n row = nat_abs (cell_number (get_or row.cells n (cells.Word keys.End)))

-- the ticks of a `run` row, and the count of an `every` row
abbrev pub ticks : Row → ℕ
ticks row = if is_key keys.Run row.key then number_at 0 row else 0

abbrev pub times : Row → ℕ
times row = if is_key keys.Every row.key then number_at 4 row else 0

-- this row brings a sum above its limit
abbrev pub is_too_much : List Row → Row → Bool
is_too_much rows row = (is_key keys.Run row.key && nat_lt 10000 (sum_by ticks rows + ticks row)) || (is_key keys.Every row.key && nat_lt 1000000 (sum_by times rows + times row))

-- ---- the causes, in order

abbrev pub first_cause : List (Bool × Cause) → Option Cause
first_cause [] = None
first_cause (c ∷ more) = if c.0 then Some c.1 else first_cause more

abbrev pub or_else : Option Cause → Option Cause → Option Cause
or_else None c = c
or_else (Some b) c = Some b

-- a first word that is none, or `post` and `every` together more than eight times
abbrev pub wraps : TextKind → List ℕ → ℕ
wraps kind line = cond (is_post (key_of (first_word (words line))) || is_every (key_of (first_word (words line)))) 1 0 + count_by is_nested (placed_in kind line)

abbrev pub spelling_cause : TextKind → List ℕ → Option Cause
spelling_cause kind line = first_cause (
    (not (is_text line), causes.Text)
    ∷ (is_none (form_at kind line) || list_any is_no_action (placed_in kind line), causes.Word) ∷ [])

abbrev pub form_cause : TextKind → List ℕ → Option Cause
form_cause kind line = first_cause (
    (not (fills (or_nothing (form_at kind line)) (more_words (words line))), causes.Count)
    ∷ (nat_lt 8 (wraps kind line), causes.Nest)
    ∷ (list_any is_no_number (placed_in kind line), causes.Number)
    ∷ (list_any is_outside (placed_in kind line), causes.Range) ∷ [])

abbrev pub order_cause : TextKind → List Row → Row → Option Cause
order_cause kind rows row = first_cause ((is_out_of_order kind rows row, causes.Order) ∷ [])

abbrev pub sum_cause : List Row → Row → Option Cause
sum_cause rows row = first_cause ((is_twice rows row, causes.Twice) ∷ (is_too_much rows row, causes.Total) ∷ [])

-- the first cause of the table that holds of this line, where these rows come before it
unfoldable pub cause_of : TextKind → List Row → List ℕ → Option Cause
cause_of kind rows line = or_else (spelling_cause kind line) (or_else (order_cause kind rows (row_of kind line)) (or_else (form_cause kind line) (sum_cause rows (row_of kind line))))

-- ---- a text

-- all lines are there: the two first of a world, and the end of each run
abbrev pub is_whole : TextKind → List Row → Bool
is_whole kinds.World [] = false
is_whole kinds.World (r ∷ []) = false
is_whole kinds.World (r ∷ s ∷ rows) = true
is_whole kind rows = not (is_running rows)

abbrev pub bad_or : Option Cause → ℕ → Option (ℕ × Cause) → Option (ℕ × Cause)
bad_or (Some c) n later = Some (n, c)
bad_or None n later = later

-- the first bad line among these, of which the first has number n and comes after these rows
unfoldable pub bad_from : TextKind → List Row → ℕ → List (List ℕ) → Option (ℕ × Cause)
bad_from kind rows n [] = if is_whole kind rows then None else Some (n, causes.Missing)
bad_from kind rows n (l ∷ ls) = if is_skipped l then bad_from kind rows (n + 1) ls else bad_or (cause_of kind rows l) n (bad_from kind (rows ++ row_of kind l ∷ []) (n + 1) ls)

abbrev pub first_bad : TextKind → List ℕ → Option (ℕ × Cause)
first_bad kind bytes = bad_from kind [] 1 (lines bytes)
