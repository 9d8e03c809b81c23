-- A number is read from its word.
use Rattle.std.proofs.Common.{List, zero, ◌<◌, ◌%◌, ◌/◌, nat_eq, arith, ◌≡◌, ℕ, suc, ◌<◌, refl, sym, ap, ◌∙◌, arith, Bool, true, false, eqb, inl, inr, [], ◌∷◌, decimal}
use Rattle.std.specs.Prelude.{ℤ, pos, negsuc, neg_ℤ, nat_lt, if◌then◌else◌}
use Rattle.std.specs.Char.{is_ascii_digit}
use Rattle.std.specs.Fmt.{digits, digits_onto, digit_glyph, signed_decimal}
use Rattle.std.specs.List.{list_all}
use Rattle.std.specs.Str.{bytes_eq}
use Rattle.std.specs.Str.Parse.{digits_value}
use Rattle.std.specs.Cmp.Lexicographic.{same_text}
use Rattle.std.proofs.lemmas.Bool.{cases_Bool, and_from, and_parts}
use Rattle.std.proofs.lemmas.Bool.Decides.{nat_tests}
use Rattle.std.proofs.lemmas.Fmt.{decimal_is_IsNumeral_wide}
use Rattle.fol_model.specs.LineWords.{Word}
use Rattle.fol_report_laws.specs.Told.{IsShort, IsNear}

abbrev pub natural_in : Word → ℕ
natural_in w = digits_value 10 w

abbrev pub integer_in : Word → ℤ
integer_in [] = pos 0
integer_in (b ∷ bs) = if eqb b 45 then neg_ℤ (pos (natural_in bs)) else pos (natural_in (b ∷ bs))

-- the first byte is that of a letter
abbrev pub begins_with_letter : Word → Bool
begins_with_letter [] = false
begins_with_letter (b ∷ bs) = nat_lt 96 b

pub natural_again : (n : ℕ) → IsShort n → natural_in (decimal n) ≡ n
natural_again n h = (decimal_is_IsNumeral_wide n h).1

glyph : (d : ℕ) → d < 10 → is_ascii_digit (digit_glyph false d) ≡ true
glyph d l = grind (arith, nat_tests)

digits_onto_are : (k n : ℕ) (after : List ℕ) → list_all is_ascii_digit after ≡ true → list_all is_ascii_digit (digits_onto k 10 false n after) ≡ true
digits_onto_are zero n after h = h
digits_onto_are (suc k) n after h =
    let l : n % 10 < 10 = omega arith in
    let m : list_all is_ascii_digit (digit_glyph false (n % 10) ∷ after) ≡ true = and_from (is_ascii_digit (digit_glyph false (n % 10))) (list_all is_ascii_digit after) (glyph (n % 10) l) h in
    elim (cases_Bool (nat_eq (n / 10) 0)) [ inl e ↦ rw e m | inr e ↦ rw e (digits_onto_are k (n / 10) _ m) ]

pub decimal_digits : (n : ℕ) → list_all is_ascii_digit (decimal n) ≡ true
unfolding digits
decimal_digits n = digits_onto_are 64 n [] refl

digit_no_dash : (b : ℕ) → is_ascii_digit b ≡ true → eqb b 45 ≡ false
digit_no_dash b h = grind (arith, nat_tests)

digit_no_letter : (b : ℕ) → is_ascii_digit b ≡ true → nat_lt 96 b ≡ false
digit_no_letter b h = grind (arith, nat_tests)

digits_in : (w : Word) → list_all is_ascii_digit w ≡ true → integer_in w ≡ pos (natural_in w)
digits_in [] h = refl
digits_in (b ∷ bs) h = rw (digit_no_dash b (and_parts (is_ascii_digit b) (list_all is_ascii_digit bs) h).0) refl

digits_no_letter : (w : Word) → list_all is_ascii_digit w ≡ true → begins_with_letter w ≡ false
digits_no_letter [] h = refl
digits_no_letter (b ∷ bs) h = digit_no_letter b (and_parts (is_ascii_digit b) (list_all is_ascii_digit bs) h).0

pub integer_again : (z : ℤ) → IsNear z → integer_in (signed_decimal z) ≡ z
integer_again (pos n) h = digits_in (decimal n) (decimal_digits n) ∙ ap pos (natural_again n h)
integer_again (negsuc n) h = ap (λ m. neg_ℤ (pos m)) (natural_again (suc n) h)

pub integer_no_letter : (z : ℤ) → begins_with_letter (signed_decimal z) ≡ false
integer_no_letter (pos n) = digits_no_letter (decimal n) (decimal_digits n)
integer_no_letter (negsuc n) = refl

-- a number is no word that is not of digits
pub number_no_word : (n : ℕ) (w : Word) → list_all is_ascii_digit w ≡ false → bytes_eq (decimal n) w ≡ false
number_no_word n w f = elim (cases_Bool (bytes_eq (decimal n) w)) [
  | inl e ↦ absurd (let k : true ≡ false = sym (decimal_digits n) ∙ ap (list_all is_ascii_digit) (same_text (decimal n) w (sym e)) ∙ f in cc)
  | inr e ↦ e
]
