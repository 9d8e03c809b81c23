-- What the reader of a line tells of the words behind the line word.
use Rattle.std.specs.Prelude.{◌≡◌, ℕ, ◌+◌, ◌≤◌, length, ◌∷◌, Bool, false, not, ◌||◌, if◌then◌else◌, List, [], ◌++◌, map, None}
use Rattle.std.specs.List.{list_any, count_by}
use Rattle.fol_model.specs.declared.words.Field.{Field}
use Rattle.fol_model.specs.declared.words.Cell.{Cell}
use Rattle.fol_script.specs.declared.cells.Marks.{Marks}
use Rattle.fol_model.specs.declared.words.Field.TheVariants as fields
use Rattle.fol_model.specs.TextForms.{key_of, action_form}
use Rattle.fol_model.specs.TextCauses.{form_of, placed, fills, is_no_action, is_nested, is_no_number, is_outside, cell_of, is_no_reading, is_outside_reading}
use Rattle.fol_text_laws.specs.FieldLimits.{InLimits}
use Rattle.fol_model.specs.TextLines.{words}
use Rattle.fol_model.specs.declared.words.Reading.{Reading}

-- the words of a text, if there is one
abbrev pub left : Bool → List ℕ → List (List ℕ)
left some text = if some then words text else []

-- the marks after a word in the place of a number
abbrev pub noted : Marks → Reading → Marks
noted m r = record m { no_number = m.no_number || is_no_reading r; outside = m.outside || is_outside_reading r }

-- each of its fields is that test on the placed words; without an action word nothing else is told
pub record Tells (ps : List Field) (ws : List (List ℕ)) (old new : List Cell) (m : Marks) : Type 0 where
  pub no_action : m.no_action ≡ list_any is_no_action (placed ps ws)
  pub unfilled : m.no_action ≡ false → m.unfilled ≡ not (fills ps ws)
  pub nested : m.no_action ≡ false → m.nested ≡ count_by is_nested (placed ps ws)
  pub no_number : m.no_action ≡ false → m.no_number ≡ list_any is_no_number (placed ps ws)
  pub outside : m.no_action ≡ false → m.outside ≡ list_any is_outside (placed ps ws)
  pub cells : m.no_action ≡ false → new ≡ old ++ map cell_of (placed ps ws)

-- the words ws are left for the places ps, of us for qs
pub record Going (m : Marks) (ps : List Field) (ws : List (List ℕ)) (now : List Cell) (qs : List Field) (us : List (List ℕ)) (old : List Cell) : Type 0 where
  pub near : InLimits ps
  pub acts : m.no_action ≡ false
  pub no_action : list_any is_no_action (placed ps ws) ≡ list_any is_no_action (placed qs us)
  pub fill : fills ps ws ≡ fills qs us
  pub nested : m.nested + count_by is_nested (placed ps ws) ≡ count_by is_nested (placed qs us)
  pub no_number : (m.no_number || list_any is_no_number (placed ps ws)) ≡ list_any is_no_number (placed qs us)
  pub outside : (m.outside || list_any is_outside (placed ps ws)) ≡ list_any is_outside (placed qs us)
  pub cells : now ++ map cell_of (placed ps ws) ≡ old ++ map cell_of (placed qs us)
  pub few : m.nested ≤ length now

-- what one more word does, whatever words come after it
abbrev pub GoesOn : List Field → List ℕ → Marks → Marks → List Cell → List Cell → List Field → Type 0
GoesOn ps w m n now new next = (ws : List (List ℕ)) (qs : List Field) (us : List (List ℕ)) (old : List Cell) → Going m ps (w ∷ ws) now qs us old → Going n next ws new qs us old

-- one more word of this text, behind which these words are left
abbrev pub Reads : List Field → List ℕ → Marks → Marks → List Cell → List Cell → List Field → List (List ℕ) → Type 0
Reads ps text m n now new next rest = (w : List ℕ) × (words text ≡ w ∷ rest) × GoesOn ps w m n now new next

-- the word stands in the place of an action word, and is none
abbrev pub IsStopped : List Field → List ℕ → Type 0
IsStopped [] w = ⊥
IsStopped (fields.Action ∷ ps) w = form_of action_form (key_of w) ≡ None
IsStopped (fields.Number low high ∷ ps) w = ⊥

-- so does the first word of this text
abbrev pub IsHalted : List Field → List ℕ → Type 0
IsHalted ps text = (w : List ℕ) × (rest : List (List ℕ)) × (words text ≡ w ∷ rest) × IsStopped ps w
