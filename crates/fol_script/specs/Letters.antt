-- Words by their letters.
use Rattle.std.specs.Prelude.{ℕ, Bool, not, ◌==◌, if◌then◌else◌, List, [], ◌∷◌, length}
use Rattle.std.specs.Char.{is_ascii_digit}
use Rattle.fol_model.specs.declared.words.Keyword.{Keyword}
use Rattle.fol_model.specs.declared.words.Keyword.TheVariants as keys

abbrev pub is_no_digit : ℕ → Bool
is_no_digit b = not (is_ascii_digit b)

-- the only key that a word of this first letter and length can be
abbrev pub by_letter : ℕ → ℕ → Keyword
by_letter b n =
    if b == 98 then keys.Block else
    if b == 99 then keys.Copy else
    if b == 101 then (if n == 3 then keys.End else if n == 5 then keys.Every else keys.Entity) else
    if b == 103 then keys.Grid else
    if b == 108 then keys.Load else
    if b == 112 then keys.Post else
    if b == 114 then keys.Run else
    if b == 115 then (if n == 3 then keys.Set else keys.Send) else
    if b == 117 then keys.Unload else
    if b == 119 then keys.World else
    keys.Arrive

abbrev pub likely : List ℕ → Keyword
likely [] = keys.Arrive
likely (b ∷ bs) = by_letter b (length (b ∷ bs))
