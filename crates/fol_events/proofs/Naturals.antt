-- A number of 64 bits is read from its digits.
use Rattle.std.proofs.Common.{◌≡◌, ℕ, ◌+◌, ◌-◌, ◌*◌, ◌^◌, ◌<◌, inl, inr, true, List, length, get_or, take, Some, sym, ap, ◌∙◌, arith, decimal}
use Rattle.std.specs.Str.Parse.{AllDigits, digits_value}
use Rattle.std.proofs.lemmas.Bool.{cases_Bool}
use Rattle.std.proofs.lemmas.Str.Parse.{digit_at, digits_value-take-le}
use Rattle.std.proofs.lemmas.Int.Digits.{digits_value_more}
use Rattle.fol_model.specs.TextNumbers.{is_natural, natural}
use Rattle.fol_text_laws.proofs.Numerals.{natural_spelled, natural_again}
use Rattle.fol_script.proofs.Digits.{digit_is, natural_is, natural_none}

-- the value with one more digit
pub one_more : (ds : List ℕ) (i m : ℕ) → AllDigits 10 ds → i < length ds → m ≡ digits_value 10 (take i ds) → m * 10 + (get_or ds i 0 - 48) ≡ digits_value 10 (take (i + 1) ds)
one_more ds i m digits lt here =
    let r = digit_at ds i digits lt in
    let d = digit_is (get_or ds i 0) r.0 r.1 in
    let e = digits_value_more 10 ds i lt in
    omega (arith, e, d, here)

-- a value that is too great stays so
pub too_great : (ds : List ℕ) (i m : ℕ) → AllDigits 10 ds → i < length ds → m ≡ digits_value 10 (take i ds) → (m * 10 + (get_or ds i 0 - 48) < 2 ^ 64 → ⊥) → digits_value 10 ds < 2 ^ 64 → ⊥
too_great ds i m digits lt here never fits =
    let e = one_more ds i m digits lt here in
    let le = digits_value-take-le 10 ds (i + 1) (omega arith) in
    never (omega (arith, e, le, fits))

pub value_spelt : (w : List ℕ) (n : ℕ) → is_natural w ≡ true → n ≡ digits_value 10 w → n < 2 ^ 64 → w ≡ decimal n
value_spelt w n h e small = sym (natural_spelled w n (natural_is w h ∙ ap (λ (k : ℕ). Some k) (sym e)) small)

pub value_again : (w : List ℕ) (n : ℕ) → n < 2 ^ 64 → w ≡ decimal n → (is_natural w ≡ true) × (digits_value 10 w ≡ n)
value_again w n small e =
    let a : natural w ≡ Some n = natural_again n w e small in
    elim (cases_Bool (is_natural w)) [
      | inl h ↦ (h, let k = natural_is w h in cc)
      | inr h ↦ absurd (let k = natural_none w h in cc)
    ]
