-- The one spelling of a number.
use Rattle.std.specs.Prelude.{◌≡◌, ℕ, ℤ, pos, neg_ℤ, ◌<◌, ◌≤◌, ◌⊎◌, Bool, false, ◌&&◌, ◌||◌, not, ◌==◌, int_lt, List, [], ◌∷◌, length, if◌then◌else◌, Option, Some, None}
use Rattle.std.specs.List.{list_all}
use Rattle.std.specs.Char.{is_ascii_digit}
use Rattle.std.specs.Str.Parse.{digits_value}
use Rattle.std.specs.Fmt.{signed_decimal}
use Rattle.fol_model.specs.declared.words.Reading.{Reading}
use Rattle.fol_model.specs.declared.words.Reading.TheVariants.{NoNumber, Outside, Is}

-- digits, of which the first is 0 only where it stands alone
abbrev pub is_natural : List ℕ → Bool
is_natural [] = false
is_natural (d ∷ ds) = (not (d == 48) || length ds == 0) && list_all is_ascii_digit (d ∷ ds)

-- the number that such a word is
abbrev pub natural : List ℕ → Option ℕ
natural w = if is_natural w then Some (digits_value 10 w) else None

abbrev pub negated : Option ℕ → Option ℤ
negated None = None
negated (Some n) = if n == 0 then None else Some (neg_ℤ (pos n))

abbrev pub positive : Option ℕ → Option ℤ
positive None = None
positive (Some n) = Some (pos n)

-- a number; where there are negative ones, also `-` followed by a number that is not 0
abbrev pub number : Bool → List ℕ → Option ℤ
number negative [] = None
number negative (b ∷ bs) = if (negative && b == 45) then negated (natural bs) else positive (natural (b ∷ bs))

abbrev pub within : ℤ → ℤ → Option ℤ → Reading
within low high None = NoNumber
within low high (Some z) = if (int_lt z low || int_lt high z) then Outside else Is z

-- a word in the place of a number from low to high; negative ones have a place where low is below 0
abbrev pub reading : ℤ → ℤ → List ℕ → Reading
reading low high w = within low high (number (int_lt low (pos 0)) w)

-- the one spelling
abbrev pub spelled : ℤ → List ℕ
spelled z = signed_decimal z

-- what a reader of bounded numbers may give for a number: that number, or both are far
abbrev pub Near : ℕ → ℕ → Type 0
Near m n = (m < 100000000010) × ((m ≡ n) ⊎ ((10000000000 ≤ m) × (10000000000 ≤ n)))
