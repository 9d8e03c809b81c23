-- Small letters, digits, dashes and spaces stand in a JSON string as they are, and a number is written in them.
use Rattle.std.proofs.Common.{◌≡◌, ℕ, zero, suc, ◌<◌, ◌%◌, ◌/◌, refl, arith, true, false, inl, inr, List, [], ◌∷◌, ◌++◌, nat_eq, decimal}
use Rattle.std.specs.Prelude.{ℤ, pos, negsuc, nat_lt, nat_le, Bool, ◌&&◌, ◌||◌}
use Rattle.std.specs.Fmt.{digits, digits_onto, digit_glyph, signed_decimal}
use Rattle.std.specs.List.{list_all}
use Rattle.std.proofs.lemmas.Bool.{cases_Bool, and_parts, eqb-true, true≢false}
use Rattle.json.specs.Print.{escape, escape_byte}
use Rattle.std.proofs.lemmas.Bool.Decides.{nat_tests}
use Rattle.fol_model.specs.LineWords.{Word}
use Rattle.fol_report.specs.Spaced.{spaced, joined}

-- a small letter, a digit, a dash or a space
unfoldable pub is_plain : ℕ → Bool
is_plain b = (nat_le 97 b && nat_le b 122) || ((nat_le 48 b && nat_le b 57) || (nat_eq b 45 || nat_eq b 32))

abbrev pub is_plain_word : Word → Bool
is_plain_word w = list_all is_plain w

-- ---- numbers

glyph : (d : ℕ) → d < 10 → is_plain (digit_glyph false d) ≡ true
unfolding is_plain
glyph d l = grind (arith, nat_tests)

digits_plain : (k n : ℕ) (after : List ℕ) → is_plain_word after ≡ true → is_plain_word (digits_onto k 10 false n after) ≡ true
digits_plain zero n after h = h
digits_plain (suc k) n after h =
    let l : n % 10 < 10 = omega arith in
    let g = glyph (n % 10) l in
    let m : is_plain_word (digit_glyph false (n % 10) ∷ after) ≡ true = rw (g, h) refl in
    elim (cases_Bool (nat_eq (n / 10) 0)) [ inl e ↦ rw e m | inr e ↦ rw e (digits_plain k (n / 10) _ m) ]

pub decimal_plain : (n : ℕ) → is_plain_word (decimal n) ≡ true
unfolding digits
decimal_plain n = digits_plain 64 n [] refl

pub signed_plain : (z : ℤ) → is_plain_word (signed_decimal z) ≡ true
unfolding is_plain
signed_plain (pos n) = decimal_plain n
signed_plain (negsuc n) = decimal_plain (suc n)

-- ---- words in a row

pub all_append : {A : Type 0} (p : A → Bool) (xs ys : List A) → list_all p xs ≡ true → list_all p ys ≡ true → list_all p (xs ++ ys) ≡ true
all_append p [] ys a b = b
all_append p (x ∷ xs) ys a b = let h = and_parts (p x) (list_all p xs) a in let k = all_append p xs ys h.1 b in let e = h.0 in rw (e, k) refl

spaced_plain : (ws : List Word) → list_all is_plain_word ws ≡ true → is_plain_word (spaced ws) ≡ true
unfolding is_plain
spaced_plain [] h = refl
spaced_plain (w ∷ ws) h = let p = and_parts (is_plain_word w) (list_all is_plain_word ws) h in all_append is_plain w (spaced ws) p.0 (spaced_plain ws p.1)

pub joined_plain : (ws : List Word) → list_all is_plain_word ws ≡ true → is_plain_word (joined ws) ≡ true
joined_plain [] h = refl
joined_plain (w ∷ ws) h = let p = and_parts (is_plain_word w) (list_all is_plain_word ws) h in all_append is_plain w (spaced ws) p.0 (spaced_plain ws p.1)

-- ---- no escape

not_at : (at b : ℕ) → is_plain at ≡ false → is_plain b ≡ true → nat_eq b at ≡ false
not_at at b n h = elim (cases_Bool (nat_eq b at)) [
  | inl e ↦ let s = eqb-true b at e in absurd (true≢false (let k = rw s at h in cc))
  | inr e ↦ e
]

high : (b : ℕ) → is_plain b ≡ true → nat_lt b 32 ≡ false
unfolding is_plain
high b h = grind (arith, nat_tests)

byte_stays : (b : ℕ) → is_plain b ≡ true → escape_byte b ≡ b ∷ []
unfolding escape_byte is_plain
byte_stays b h =
    let e34 : nat_eq b 34 ≡ false = not_at 34 b refl h in
    let e92 : nat_eq b 92 ≡ false = not_at 92 b refl h in
    let e8 : nat_eq b 8 ≡ false = not_at 8 b refl h in
    let e12 : nat_eq b 12 ≡ false = not_at 12 b refl h in
    let e10 : nat_eq b 10 ≡ false = not_at 10 b refl h in
    let e13 : nat_eq b 13 ≡ false = not_at 13 b refl h in
    let e9 : nat_eq b 9 ≡ false = not_at 9 b refl h in
    let low : nat_lt b 32 ≡ false = high b h in
    rw (e34, e92, e8, e12, e10, e13, e9, low) refl

pub plain_stays : (text : List ℕ) → is_plain_word text ≡ true → escape text ≡ text
plain_stays [] h = refl
plain_stays (b ∷ text) h = let p = and_parts (is_plain b) (is_plain_word text) h in let e = byte_stays b p.0 in let r = plain_stays text p.1 in rw (e, r) refl
