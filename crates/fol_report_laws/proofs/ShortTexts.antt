-- Each part of a text of short words has short words.
use Rattle.std.proofs.Common.{◌≡◌, ℕ, ◌<◌, refl, sym, ap, ◌∙◌, arith, true, false, inl, inr, List, [], ◌∷◌, ◌++◌, map, flat_map, length, append_assoc}
use Rattle.std.specs.List.{All, list_all, slice_split, onto_first, slice_index_or}
use Rattle.std.proofs.lemmas.Bool.{cases_Bool, and_parts, and_from}
use Rattle.std.proofs.lemmas.Bool.Decides.{nat_tests}
use Rattle.std.proofs.lemmas.List.Folds.{list_all-append}
use Rattle.std.proofs.lemmas.List.Sums.{AllPass-from_list_all}
use Rattle.std.proofs.lemmas.List.Splits.{slice_split_at}
use Rattle.fol_model.specs.TextLines.{line_of}
use Rattle.fol_model.specs.LineWords.{Word, lines_of}
use Rattle.fol_model.specs.JsonReport.{in_quotes, quoted_lines}
use Rattle.fol_report_laws.specs.ShortWords.{is_gap, is_short_word, has_short_words}
use Rattle.fol_report_laws.proofs.Rows.{is_ink, is_ink_word, InkRows}

-- ---- what is behind

shorter : (b : ℕ) (w : Word) → is_short_word (b ∷ w) ≡ true → is_short_word w ≡ true
shorter b w h = grind (arith, nat_tests)

short_onto : (b : ℕ) (ws : List Word) → list_all is_short_word (onto_first b ws) ≡ true → list_all is_short_word ws ≡ true
short_onto b [] h = refl
short_onto b (w ∷ ws) h =
    let p = and_parts (is_short_word (b ∷ w)) (list_all is_short_word ws) h in
    and_from (is_short_word w) (list_all is_short_word ws) (shorter b w p.0) p.1

pub short_after : (b : ℕ) (text : List ℕ) → has_short_words (b ∷ text) ≡ true → has_short_words text ≡ true
short_after b text h = elim (cases_Bool (is_gap b)) [
  | inl e ↦ let k = rw e at h in k
  | inr e ↦ short_onto b (slice_split is_gap text) (rw e at h)
]

pub short_behind : (before text : List ℕ) → has_short_words (before ++ text) ≡ true → has_short_words text ≡ true
short_behind [] text h = h
short_behind (b ∷ bs) text h = short_behind bs text (short_after b (bs ++ text) h)

-- ---- the words of a line

ink_no_gap : (b : ℕ) → is_ink b ≡ true → is_gap b ≡ false
unfolding is_ink
ink_no_gap b h = grind (arith, nat_tests)

no_gaps : (w : Word) → is_ink_word w ≡ true → All (λ b. is_gap b ≡ false) w
no_gaps w h = λ k d l. ink_no_gap (slice_index_or w k d) (AllPass-from_list_all is_ink w h k d l)

line_split : (w : Word) (ws : List Word) (g : ℕ) (text : List ℕ) → is_gap g ≡ true → is_ink_word w ≡ true → list_all is_ink_word ws ≡ true
    → slice_split is_gap (line_of (w ∷ ws) ++ g ∷ text) ≡ (w ∷ ws) ++ slice_split is_gap text
line_split w [] g text gap h hs = slice_split_at is_gap w g text (no_gaps w h) gap
line_split w (v ∷ vs) g text gap h hs =
    let p = and_parts (is_ink_word v) (list_all is_ink_word vs) hs in
    ap (slice_split is_gap) (append_assoc w (32 ∷ line_of (v ∷ vs)) (g ∷ text))
    ∙ slice_split_at is_gap w 32 (line_of (v ∷ vs) ++ g ∷ text) (no_gaps w h) refl
    ∙ ap (λ (l : List Word). w ∷ l) (line_split v vs g text gap p.0 p.1)

-- the line's words are short, and so is what stands behind the gap
record ShortLine (ws : List Word) (text : List ℕ) : Type 0 where
  words : list_all is_short_word ws ≡ true
  behind : has_short_words text ≡ true

short_line : (ws : List Word) (g : ℕ) (text : List ℕ) → 0 < length ws → list_all is_ink_word ws ≡ true → is_gap g ≡ true → has_short_words (line_of ws ++ g ∷ text) ≡ true → ShortLine ws text
short_line [] g text n ink gap h = absurd (omega arith)
short_line (w ∷ ws) g text n ink gap h =
    let p = and_parts (is_ink_word w) (list_all is_ink_word ws) ink in
    let all = sym (ap (list_all is_short_word) (line_split w ws g text gap p.0 p.1)) ∙ h in
    let q = and_parts (list_all is_short_word (w ∷ ws)) (has_short_words text) (sym (list_all-append is_short_word (w ∷ ws) (slice_split is_gap text)) ∙ all) in
    record { words = q.0; behind = q.1 }

-- ---- the words of some lines

pub line_before : (l more text : List ℕ) (g : ℕ) → (l ++ g ∷ []) ++ more ++ text ≡ l ++ g ∷ (more ++ text)
line_before l more text g = simp append_assoc

pub short_lines : {R : Type 0} (words : R → List Word) → InkRows words → (rs : List R) (text : List ℕ) → has_short_words (lines_of words rs ++ text) ≡ true → list_all (list_all is_short_word) (map words rs) ≡ true
short_lines words ink [] text h = refl
short_lines words ink (r ∷ rs) text h =
    let e = line_before (line_of (words r)) (lines_of words rs) text 10 in
    let s = short_line (words r) 10 (lines_of words rs ++ text) (ink.some r) (ink.ink r) refl (sym (ap has_short_words e) ∙ h) in
    and_from (list_all is_short_word (words r)) (list_all (list_all is_short_word) (map words rs)) s.words (short_lines words ink rs text s.behind)

-- the lines with commas between, behind the first
abbrev pub more_quoted : {R : Type 0} → (R → List Word) → List R → List ℕ
more_quoted words rs = flat_map (λ q. 44 ∷ in_quotes (line_of (words q))) rs

short_more : {R : Type 0} (words : R → List Word) → InkRows words → (rs : List R) (text : List ℕ) → has_short_words (more_quoted words rs ++ text) ≡ true → list_all (list_all is_short_word) (map words rs) ≡ true
short_more words ink [] text h = refl
short_more words ink (r ∷ rs) text h =
    let e = line_before (line_of (words r)) (more_quoted words rs) text 34 in
    let behind = short_behind (44 ∷ 34 ∷ []) ((line_of (words r) ++ 34 ∷ []) ++ more_quoted words rs ++ text) h in
    let s = short_line (words r) 34 (more_quoted words rs ++ text) (ink.some r) (ink.ink r) refl (sym (ap has_short_words e) ∙ behind) in
    and_from (list_all is_short_word (words r)) (list_all (list_all is_short_word) (map words rs)) s.words (short_more words ink rs text s.behind)

pub short_quoted : {R : Type 0} (words : R → List Word) → InkRows words → (rs : List R) (text : List ℕ) → has_short_words (quoted_lines words rs ++ text) ≡ true → list_all (list_all is_short_word) (map words rs) ≡ true
short_quoted words ink [] text h = refl
short_quoted words ink (r ∷ rs) text h =
    let e = line_before (line_of (words r)) (more_quoted words rs) text 34 in
    let behind = short_behind (34 ∷ []) ((line_of (words r) ++ 34 ∷ []) ++ more_quoted words rs ++ text) h in
    let s = short_line (words r) 34 (more_quoted words rs ++ text) (ink.some r) (ink.ink r) refl (sym (ap has_short_words e) ∙ behind) in
    and_from (list_all is_short_word (words r)) (list_all (list_all is_short_word) (map words rs)) s.words (short_more words ink rs text s.behind)
