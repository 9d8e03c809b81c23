-- Lists by where they begin and end among all elements.
use Rattle.std.specs.Prelude.{◌≢◌, ◌⊎◌, ℕ, ◌-◌, ◌<◌, ◌≤◌, ◌*◌, ◌^◌, List, [], ◌++◌, length, map, replicate, sum_by}
use Rattle.std.specs.List.{All, slice_index_or, slice_range}
use Rattle.fol_lists.specs.declared.spans.Span.{Span}

abbrev pub piece_of : {T : Type 0} → List T → Span → List T
piece_of cells span = slice_range cells span.from span.to

-- the lists, one for each span
abbrev pub pieces_of : {T : Type 0} → List T → List Span → List (List T)
pieces_of cells spans = map (piece_of cells) spans

-- the lists with the numbers below `numbers`; those without a span are empty
abbrev pub lists_of : {T : Type 0} → List T → List Span → ℕ → List (List T)
lists_of cells spans numbers = pieces_of cells spans ++ replicate (numbers - length spans) []

-- the span and the free places behind it lie within so many elements
pub record IsSpan (n : ℕ) (span : Span) : Type 0 where
  pub rising : span.from ≤ span.to
  pub free : span.to ≤ span.end
  pub within : span.end ≤ n

-- no two spans share a place, free or not
pub record AreApart (spans : List Span) : Type 0 where
  pub apart : (j k : ℕ) (d : Span) → j < length spans → k < length spans → j ≢ k
      → (slice_index_or spans j d).end ≤ (slice_index_or spans k d).from ⊎ (slice_index_or spans k d).end ≤ (slice_index_or spans j d).from

-- the spans lie apart among the elements, and the lists hold at most `room` elements together
pub record AreSpans {T : Type 0} (cells : List T) (spans : List Span) (room : ℕ) : Type 0 where
  pub fit : All (IsSpan (length cells)) spans
  pub apart : AreApart spans
  pub few : sum_by length (pieces_of cells spans) ≤ room
  pub used : length cells ≤ 4 * room

-- the memory for the elements, and as much again to write them close together
pub record HasRoom (room capacity other : ℕ) : Type 0 where
  pub few : room < 2 ^ 62
  pub cells : 4 * room ≤ capacity
  pub spare : 4 * room ≤ other

-- there are spans for the first numbers, and memory for those of all numbers
pub record HasNumbers (written numbers capacity : ℕ) : Type 0 where
  pub within : written ≤ numbers
  pub memory : numbers ≤ capacity
