-- Whether a text has short words alone.
use Rattle.std.specs.Prelude.{ℕ, Bool, List, length, nat_le, nat_lt}
use Rattle.std.specs.List.{list_all, slice_split}
use Rattle.fol_model.specs.LineWords.{Word}

-- a line feed, a space, a quotation mark or another byte up to that: no word holds one
abbrev pub is_gap : ℕ → Bool
is_gap b = nat_le b 34

-- at most 63 bytes: those of a number of 64 bits are at most 20
abbrev pub is_short_word : Word → Bool
is_short_word w = nat_lt (length w) 64

-- what stands between the gaps is short
abbrev pub has_short_words : List ℕ → Bool
has_short_words text = list_all is_short_word (slice_split is_gap text)
