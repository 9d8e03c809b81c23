-- A text of lines falls into the words of its lines again, where each word is of bytes above the quotation mark.
use Rattle.std.proofs.Common.{◌≡◌, ℕ, ◌<◌, refl, ap, ◌∙◌, arith, Bool, true, false, eqb, List, [], ◌∷◌, ◌++◌, map, length, append_assoc}
use Rattle.std.specs.Prelude.{◌||◌, nat_lt}
use Rattle.std.specs.List.{All, list_all, slice_index_or}
use Rattle.std.proofs.lemmas.Bool.{and_parts, and_from}
use Rattle.std.proofs.lemmas.Bool.Decides.{nat_tests}
use Rattle.std.proofs.lemmas.List.Folds.{list_all-append}
use Rattle.std.proofs.lemmas.List.Sums.{AllPass-from_list_all}
use Rattle.std.proofs.lemmas.List.Splits.{slice_split_at, slice_split_none}
use Rattle.fol_model.specs.TextLines.{lines, words, line_of}
use Rattle.fol_model.specs.LineWords.{Word, line, lines_of}

-- a byte above the quotation mark, and so above the space and the line feed
unfoldable pub is_ink : ℕ → Bool
is_ink b = nat_lt 34 b

abbrev pub is_ink_word : Word → Bool
is_ink_word w = list_all is_ink w

-- such a byte or a space
abbrev pub is_in_line : ℕ → Bool
is_in_line b = nat_lt 34 b || eqb b 32

abbrev pub rows_in : List ℕ → List (List Word)
rows_in text = map words (lines text)

no_space : (b : ℕ) → is_ink b ≡ true → eqb b 32 ≡ false
unfolding is_ink
no_space b h = grind (arith, nat_tests)

no_feed : (b : ℕ) → is_in_line b ≡ true → eqb b 10 ≡ false
no_feed b h = grind (arith, nat_tests)

ink_in_line : (b : ℕ) → is_ink b ≡ true → is_in_line b ≡ true
unfolding is_ink
ink_in_line b h = grind (arith, nat_tests)

no_spaces : (w : Word) → is_ink_word w ≡ true → All (λ b. eqb b 32 ≡ false) w
no_spaces w h = λ k d l. no_space (slice_index_or w k d) (AllPass-from_list_all is_ink w h k d l)

first_line : (l text : List ℕ) → list_all is_in_line l ≡ true → lines (l ++ 10 ∷ text) ≡ l ∷ lines text
first_line [] text h = refl
first_line (b ∷ bs) text h =
    let p = and_parts (is_in_line b) (list_all is_in_line bs) h in
    rw (no_feed b p.0, first_line bs text p.1) refl

-- ---- the words of a line

words_again : (w : Word) (ws : List Word) → is_ink_word w ≡ true → list_all is_ink_word ws ≡ true → words (line_of (w ∷ ws)) ≡ w ∷ ws
words_again w [] h hs = slice_split_none (λ b. eqb b 32) w (no_spaces w h)
words_again w (v ∷ vs) h hs =
    let p = and_parts (is_ink_word v) (list_all is_ink_word vs) hs in
    slice_split_at (λ b. eqb b 32) w 32 (line_of (v ∷ vs)) (no_spaces w h) refl ∙ ap (λ (l : List Word). w ∷ l) (words_again v vs p.0 p.1)

word_in_line : (w : Word) → is_ink_word w ≡ true → list_all is_in_line w ≡ true
word_in_line [] h = refl
word_in_line (b ∷ bs) h =
    let p = and_parts (is_ink b) (is_ink_word bs) h in
    and_from (is_in_line b) (list_all is_in_line bs) (ink_in_line b p.0) (word_in_line bs p.1)

all_in_line : (w : Word) (ws : List Word) → is_ink_word w ≡ true → list_all is_ink_word ws ≡ true → list_all is_in_line (line_of (w ∷ ws)) ≡ true
all_in_line w [] h hs = word_in_line w h
all_in_line w (v ∷ vs) h hs =
    let p = and_parts (is_ink_word v) (list_all is_ink_word vs) hs in
    list_all-append is_in_line w (32 ∷ line_of (v ∷ vs)) ∙ and_from (list_all is_in_line w) (list_all is_in_line (line_of (v ∷ vs))) (word_in_line w h) (all_in_line v vs p.0 p.1)

pub line_words : (ws : List Word) → 0 < length ws → list_all is_ink_word ws ≡ true → words (line_of ws) ≡ ws
line_words [] n h = absurd (omega arith)
line_words (w ∷ ws) n h = let p = and_parts (is_ink_word w) (list_all is_ink_word ws) h in words_again w ws p.0 p.1

pub line_in_line : (ws : List Word) → 0 < length ws → list_all is_ink_word ws ≡ true → list_all is_in_line (line_of ws) ≡ true
line_in_line [] n h = absurd (omega arith)
line_in_line (w ∷ ws) n h = let p = and_parts (is_ink_word w) (list_all is_ink_word ws) h in all_in_line w ws p.0 p.1

-- ---- the rows of a text

pub row_again : (ws : List Word) (text : List ℕ) → 0 < length ws → list_all is_ink_word ws ≡ true → rows_in (line ws ++ text) ≡ ws ∷ rows_in text
row_again ws text n h =
    ap rows_in (append_assoc (line_of ws) (10 ∷ []) text)
    ∙ ap (map words) (first_line (line_of ws) text (line_in_line ws n h))
    ∙ ap (λ (r : List Word). r ∷ rows_in text) (line_words ws n h)

-- the words of each row are some, of bytes above the quotation mark
pub record InkRows {R : Type 0} (words : R → List Word) : Type 0 where
  pub some : (r : R) → 0 < length (words r)
  pub ink : (r : R) → list_all is_ink_word (words r) ≡ true

pub rows_again : {R : Type 0} (words : R → List Word) → InkRows words → (rs : List R) (text : List ℕ) → rows_in (lines_of words rs ++ text) ≡ map words rs ++ rows_in text
rows_again words h [] text = refl
rows_again words h (r ∷ rs) text =
    ap rows_in (append_assoc (line (words r)) (lines_of words rs) text)
    ∙ row_again (words r) (lines_of words rs ++ text) (h.some r) (h.ink r)
    ∙ ap (λ (l : List (List Word)). words r ∷ l) (rows_again words h rs text)
