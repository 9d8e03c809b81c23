-- A JSON text falls, at its quotation marks, into its lines and what stands between them.
use Rattle.std.proofs.Common.{◌≡◌, ℕ, ◌<◌, refl, ap, ◌∙◌, arith, Bool, true, false, ◌||◌, eqb, List, [], ◌∷◌, ◌++◌, map, length}
use Rattle.std.specs.Prelude.{codes, if◌then◌else◌}
use Rattle.std.specs.List.{All, list_all, slice_split, slice_index_or}
use Rattle.std.specs.Str.{bytes_eq}
use Rattle.std.proofs.lemmas.Bool.Decides.{nat_tests}
use Rattle.std.proofs.lemmas.List.Sums.{AllPass-from_list_all}
use Rattle.std.proofs.lemmas.List.Splits.{slice_split_at}
use Rattle.fol_model.specs.TextLines.{line_of}
use Rattle.fol_model.specs.LineWords.{Word}
use Rattle.fol_model.specs.JsonReport.{quoted_lines}
use Rattle.fol_report_laws.proofs.Rows.{is_in_line, InkRows, line_in_line}
use Rattle.fol_report_laws.proofs.ShortTexts.{more_quoted, line_before}

abbrev pub pieces : List ℕ → List (List ℕ)
pieces text = slice_split (λ b. eqb b 34) text

-- the pieces of an array behind its first line, up to the next name
abbrev pub more_pieces : {R : Type 0} → (R → List Word) → List R → List (List ℕ)
more_pieces words [] = codes "]," ∷ []
more_pieces words (r ∷ rs) = codes "," ∷ line_of (words r) ∷ more_pieces words rs

-- the pieces of an array behind its name, up to the next name
abbrev pub array_pieces : {R : Type 0} → (R → List Word) → List R → List (List ℕ)
array_pieces words [] = codes ":[]," ∷ []
array_pieces words (r ∷ rs) = codes ":[" ∷ line_of (words r) ∷ more_pieces words rs

-- ---- an array falls into its pieces

no_mark : (b : ℕ) → is_in_line b ≡ true → eqb b 34 ≡ false
no_mark b h = grind (arith, nat_tests)

no_marks : (l : List ℕ) → list_all is_in_line l ≡ true → All (λ b. eqb b 34 ≡ false) l
no_marks l h = λ k d n. no_mark (slice_index_or l k d) (AllPass-from_list_all is_in_line l h k d n)

line_piece : (ws : List Word) (more text : List ℕ) → 0 < length ws → list_all is_in_line (line_of ws) ≡ true → pieces ((line_of ws ++ 34 ∷ []) ++ more ++ text) ≡ line_of ws ∷ pieces (more ++ text)
line_piece ws more text n h =
    ap pieces (line_before (line_of ws) more text 34) ∙ slice_split_at (λ b. eqb b 34) (line_of ws) 34 (more ++ text) (no_marks (line_of ws) h) refl

more_fall : {R : Type 0} (words : R → List Word) → InkRows words → (rs : List R) (text : List ℕ) → pieces (more_quoted words rs ++ (codes "],\"" ++ text)) ≡ more_pieces words rs ++ pieces text
more_fall words ink [] text = refl
more_fall words ink (r ∷ rs) text =
    ap (λ (l : List (List ℕ)). codes "," ∷ l) (line_piece (words r) (more_quoted words rs) (codes "],\"" ++ text) (ink.some r) (line_in_line (words r) (ink.some r) (ink.ink r))
    ∙ ap (λ (l : List (List ℕ)). line_of (words r) ∷ l) (more_fall words ink rs text))

pub array_falls : {R : Type 0} (words : R → List Word) → InkRows words → (rs : List R) (text : List ℕ) → pieces (codes ":[" ++ (quoted_lines words rs ++ (codes "],\"" ++ text))) ≡ array_pieces words rs ++ pieces text
array_falls words ink [] text = refl
array_falls words ink (r ∷ rs) text =
    ap (λ (l : List (List ℕ)). codes ":[" ∷ l) (line_piece (words r) (more_quoted words rs) (codes "],\"" ++ text) (ink.some r) (line_in_line (words r) (ink.some r) (ink.ink r))
    ∙ ap (λ (l : List (List ℕ)). line_of (words r) ∷ l) (more_fall words ink rs text))

-- ---- the pieces behind a name

abbrev pub is_events : List ℕ → Bool
is_events p = bytes_eq p (codes "events")

-- behind the first piece that is the name of the events
abbrev pub behind_events : List (List ℕ) → List (List ℕ)
behind_events [] = []
behind_events (p ∷ ps) = if is_events p then ps else behind_events ps

-- none of the lines is that name
abbrev pub NoEvents : {R : Type 0} → (R → List Word) → Type 0
NoEvents {R} words = (r : R) → is_events (line_of (words r)) ≡ false

more_skipped : {R : Type 0} (words : R → List Word) → NoEvents words → (rs : List R) (ps : List (List ℕ)) → behind_events (more_pieces words rs ++ ps) ≡ behind_events ps
more_skipped words none [] ps = refl
more_skipped words none (r ∷ rs) ps = rw (none r) (more_skipped words none rs ps)

pub array_skipped : {R : Type 0} (words : R → List Word) → NoEvents words → (rs : List R) (ps : List (List ℕ)) → behind_events (array_pieces words rs ++ ps) ≡ behind_events ps
array_skipped words none [] ps = refl
array_skipped words none (r ∷ rs) ps = rw (none r) (more_skipped words none rs ps)

-- ---- the lines of an array

abbrev is_last : List ℕ → Bool
is_last p = bytes_eq p (codes "],") || bytes_eq p (codes ":[],")

-- each second piece, up to the end of the array
abbrev pub lines_in : List (List ℕ) → List (List ℕ)
lines_in (s ∷ l ∷ ps) = if is_last s then [] else l ∷ lines_in ps
lines_in _ = []

more_lines : {R : Type 0} (words : R → List Word) (rs : List R) (p : List ℕ) (ps : List (List ℕ)) → lines_in (more_pieces words rs ++ p ∷ ps) ≡ map (λ r. line_of (words r)) rs
more_lines words [] p ps = refl
more_lines words (r ∷ rs) p ps = ap (λ (l : List (List ℕ)). line_of (words r) ∷ l) (more_lines words rs p ps)

pub array_lines : {R : Type 0} (words : R → List Word) (rs : List R) (p : List ℕ) (ps : List (List ℕ)) → lines_in (array_pieces words rs ++ p ∷ ps) ≡ map (λ r. line_of (words r)) rs
array_lines words [] p ps = refl
array_lines words (r ∷ rs) p ps = ap (λ (l : List (List ℕ)). line_of (words r) ∷ l) (more_lines words rs p ps)
