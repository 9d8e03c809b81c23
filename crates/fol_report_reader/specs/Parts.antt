-- A part of a report at the front of some bytes, and where it is not as it must be. Lines are counted from 1, from the part on.
use Rattle.std.specs.Prelude.{◌≡◌, ℕ, Bool, nat_lt, ◌+◌, ◌<◌, ◌≤◌, ◌⊎◌, List, [], ◌∷◌, ◌++◌, length, decimal}
use Rattle.std.specs.List.{AllByRecursion, list_all}
use Rattle.fol_model.specs.LineWords.{Word, line, lines_of, part}
use Rattle.fol_report_reader.specs.declared.parts.Fault.{Fault}
use Rattle.fol_report_reader.specs.declared.parts.Fault.TheVariants.{Line, NoMemory}

-- the bytes begin with the part of these rows, and go on with the rest
pub record IsPart {R : Type 0} (name : Word) (words : R → List Word) (InRange : R → Type 0) (text : List ℕ) (rows : List R) (rest : List ℕ) : Type 0 where
  pub few : length rows ≤ 16777216
  pub in_range : AllByRecursion InRange rows
  pub text_is : text ≡ part name words rows ++ rest

-- each byte is above the quotation mark
abbrev pub is_name : Word → Bool
is_name w = list_all (λ b. nat_lt 34 b) w

-- the line that tells how many rows follow
abbrev pub count_line : Word → ℕ → List ℕ
count_line name n = line (name ∷ decimal n ∷ [])

-- the first line tells no count
pub record BadCount (name : Word) (text : List ℕ) (l : ℕ) : Type 0 where
  pub place : l ≡ 1
  pub none : (n : ℕ) (rest : List ℕ) → n ≤ 16777216 → text ≡ count_line name n ++ rest → ⊥

-- the first line tells a count, fewer rows follow, and the line behind them is no row in range
pub record BadRow {R : Type 0} (name : Word) (words : R → List Word) (InRange : R → Type 0) (text : List ℕ) (l : ℕ) : Type 0 where
  pub count : ℕ
  pub rows : List R
  pub rest : List ℕ
  pub few : count ≤ 16777216
  pub in_range : AllByRecursion InRange rows
  pub more : length rows < count
  pub text_is : text ≡ count_line name count ++ (lines_of words rows ++ rest)
  pub place : l ≡ length rows + 2
  pub none : (r : R) (behind : List ℕ) → InRange r → rest ≡ line (words r) ++ behind → ⊥

-- the line where the part at the front of the bytes is not as it must be
abbrev pub IsBadPart : {R : Type 0} → Word → (R → List Word) → (R → Type 0) → List ℕ → ℕ → Type 0
IsBadPart name words InRange text l = BadCount name text l ⊎ BadRow name words InRange text l

-- the part is as it must be, and what stands behind it is not
pub record BadBehind {R : Type 0} (name : Word) (words : R → List Word) (InRange : R → Type 0) (IsBad : List ℕ → ℕ → Type 0) (text : List ℕ) (l : ℕ) : Type 0 where
  pub rows : List R
  pub rest : List ℕ
  pub part_is : IsPart name words InRange text rows rest
  pub line : ℕ
  pub place : l ≡ length rows + 1 + line
  pub bad : IsBad rest line

-- the line where a part and what stands behind it are not as they must be
abbrev pub IsBadFrom : {R : Type 0} → Word → (R → List Word) → (R → Type 0) → (List ℕ → ℕ → Type 0) → List ℕ → ℕ → Type 0
IsBadFrom name words InRange IsBad text l = IsBadPart name words InRange text l ⊎ BadBehind name words InRange IsBad text l

-- the fact of the line, where a line is at fault
abbrev pub OnLine : Fault → (ℕ → Type 0) → Type 0
OnLine (Line l) P = P l
OnLine NoMemory P = Unit {0}

-- ---- so many rows, in the bytes behind the count

pub record Reads {R : Type 0} (words : R → List Word) (InRange : R → Type 0) (count : ℕ) (text : List ℕ) (rows : List R) (rest : List ℕ) : Type 0 where
  pub all : length rows ≡ count
  pub in_range : AllByRecursion InRange rows
  pub text_is : text ≡ lines_of words rows ++ rest

pub record Stops {R : Type 0} (words : R → List Word) (InRange : R → Type 0) (count : ℕ) (text : List ℕ) (l : ℕ) : Type 0 where
  pub rows : List R
  pub rest : List ℕ
  pub in_range : AllByRecursion InRange rows
  pub more : length rows < count
  pub text_is : text ≡ lines_of words rows ++ rest
  pub place : l ≡ length rows + 2
  pub none : (r : R) (behind : List ℕ) → InRange r → rest ≡ line (words r) ++ behind → ⊥
