-- The made texts, line by line.
use Rattle.std.specs.Prelude.{ℕ, ◌+◌, ◌*◌, ◌%◌, List, [], ◌∷◌, ◌++◌, map, flat_map, codes, decimal}
use Rattle.fol_model.specs.LineWords.{Word, line}
use Rattle.fol_model.specs.Universe.{numbers_below}

-- the lines, each with its end
abbrev pub text_of : List (List Word) → List ℕ
text_of lines = flat_map line lines

-- the text of the world
abbrev pub world_text : List ℕ
world_text = codes "world 1\ngrid 0 1 1 2 1 6\n"

-- a ticket for the chunk (x, 0)
abbrev pub load_line : ℕ → List Word
load_line x = codes "load" ∷ decimal x ∷ codes "0" ∷ []

-- in the first chunk of cluster i, after j + 1 ticks, the block at place j gets a number
abbrev pub post_line : ℕ → ℕ → List Word
post_line i j =
    codes "post" ∷ decimal (12 * i) ∷ codes "0" ∷ decimal (j + 1)
    ∷ codes "set" ∷ decimal (192 * i + j) ∷ codes "64" ∷ codes "0" ∷ decimal (1 + (4 * i + j) % 60000) ∷ []

-- three tickets, three chunks apart, and four tasks
abbrev pub cluster_lines : ℕ → List (List Word)
cluster_lines i = load_line (12 * i) ∷ load_line (12 * i + 3) ∷ load_line (12 * i + 6) ∷ map (post_line i) (numbers_below 4)

-- the ticket in the middle of cluster i is taken back
abbrev pub unload_line : ℕ → List Word
unload_line i = codes "unload" ∷ decimal (12 * i + 3) ∷ codes "0" ∷ []

-- a phase of so many ticks
abbrev pub run_lines : ℕ → List (List Word)
run_lines ticks = (codes "run" ∷ decimal ticks ∷ []) ∷ (codes "end" ∷ []) ∷ []

-- the script of n clusters
abbrev pub script_lines : ℕ → List (List Word)
script_lines n = flat_map cluster_lines (numbers_below n) ++ run_lines 5 ++ map unload_line (numbers_below n) ++ run_lines 2

abbrev pub script_text : ℕ → List ℕ
script_text n = text_of (script_lines n)
