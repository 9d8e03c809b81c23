-- How a text falls into lines, and a line into words.
use Rattle.std.specs.Prelude.{ℕ, Bool, true, false, ◌&&◌, nat_le, ◌==◌, not, List, [], ◌∷◌, if◌then◌else◌}
use Rattle.std.specs.List.{slice_split, onto_first, list_all, filter, join_with_byte}

-- cut at each line feed; the bytes after the last one are a line where there are any
abbrev pub lines : List ℕ → List (List ℕ)
lines [] = []
lines (b ∷ bs) = if b == 10 then [] ∷ lines bs else onto_first b (lines bs)

-- an empty line, and one that begins with `#`
abbrev pub is_skipped : List ℕ → Bool
is_skipped [] = true
is_skipped (b ∷ bs) = b == 35

abbrev pub kept : List (List ℕ) → List (List ℕ)
kept ls = filter (λ l. not (is_skipped l)) ls

-- cut at each space
abbrev pub words : List ℕ → List (List ℕ)
words l = slice_split (λ b. b == 32) l

-- with one space between each two
abbrev pub line_of : List (List ℕ) → List ℕ
line_of ws = join_with_byte 32 ws

abbrev pub is_printable : ℕ → Bool
is_printable b = nat_le 32 b && nat_le b 126

abbrev pub is_some_word : List ℕ → Bool
is_some_word [] = false
is_some_word (b ∷ bs) = true

-- bytes 0x20 to 0x7E, no space first or last, no two spaces together: each piece between spaces is a word
abbrev pub is_text : List ℕ → Bool
is_text l = list_all is_printable l && list_all is_some_word (words l)
