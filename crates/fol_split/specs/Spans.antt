-- Parts of a list by where they begin and end.
use Rattle.std.specs.Prelude.{◌≡◌, ℕ, ◌<◌, ◌≤◌, false, IsTrue, List, length, map}
use Rattle.std.specs.List.{All, list_any, slice_range}
use Rattle.std.specs.List.Sorted.{IsStrictlySortedBy}
use Rattle.std.specs.Ordering.{on}
use Rattle.std.specs.declared.cmp.Ordering.TheVariants.{Less}
use Rattle.fol_model.specs.declared.places.SectionPos.{SectionPos}
use Rattle.fol_model.specs.Universe.{section_cmp}
use Rattle.fol_split.specs.declared.spans.Span.{Span}
use Rattle.fol_split.specs.Parts.{least_of, IsPart}
use Rattle.fol_model.specs.Geometry.{is_among}
use Rattle.fol_split.specs.Pool.{Taken, is_left, IsApart}
use Rattle.fol_split.specs.Runs.{all_of, run_at, sections_of}

abbrev pub piece_of : List SectionPos → Span → List SectionPos
piece_of found span = slice_range found span.from span.to

-- the pieces of the list, one for each span
abbrev pub pieces_of : List SectionPos → List Span → List (List SectionPos)
pieces_of found spans = map (piece_of found) spans

-- the span lies within a list of this length
pub record IsSpan (n : ℕ) (span : Span) : Type 0 where
  pub rising : span.from ≤ span.to
  pub within : span.to ≤ n

-- the sections of the runs before the place i have their parts
pub record IsSplit (p : Taken) (spans : List Span) (merge i : ℕ) : Type 0 where
  pub apart : IsApart p merge
  pub done : (k : ℕ) (s : SectionPos) → k < i → k < length p.runs → IsTrue (is_among (sections_of (run_at p.runs k)) s) → is_left p s ≡ false
  pub fit : All (IsSpan (length p.found)) spans
  pub few : length spans ≤ length p.found
  pub classes : All (IsPart (all_of p.runs) merge) (pieces_of p.found spans)
  pub cover : (s : SectionPos) → IsTrue (is_among p.found s) → IsTrue (list_any (λ part. is_among part s) (pieces_of p.found spans))
  pub by_least : IsStrictlySortedBy (on least_of section_cmp) (pieces_of p.found spans)
  pub before : All (λ part. (k : ℕ) (s : SectionPos) → i ≤ k → k < length p.runs → IsTrue (is_among (sections_of (run_at p.runs k)) s) → section_cmp (least_of part) s ≡ Less) (pieces_of p.found spans)
