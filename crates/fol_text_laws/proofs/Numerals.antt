-- A number has one spelling, and a word is read as the number that it spells.
use Rattle.std.proofs.Common.{◌≡◌, ℕ, zero, suc, ◌^◌, ◌<◌, inl, inr, ℤ, pos, negsuc, ◌≤ℤ◌, int_lt, Bool, true, false, not, ◌&&◌, ◌||◌, eqb, List, [], ◌∷◌, length, Option, Some, None, refl, sym, ap, subst, ◌∙◌, arith, rules}
use borrow.Author.Differences.{ints}
use Rattle.std.specs.Char.{is_ascii_digit}
use Rattle.std.specs.List.{list_all}
use Rattle.std.specs.Fmt.{decimal}
use Rattle.std.specs.Str.Parse.{digits_value}
use Rattle.std.proofs.lemmas.Bool.{cases_Bool, and_parts, and_from, or_cases, or_parts, eqb-true}
use Rattle.std.proofs.lemmas.Bool.Decides.{nat_tests}
use Rattle.std.proofs.lemmas.Str.Parse.{IsNumeralModel, numerals_by_value}
use Rattle.std.proofs.lemmas.Fmt.{decimal-digits_value, digits_decimal, digits_value-decimal, first_decimal, decimal_nonempty, decimal_digit}
use Rattle.fol_model.specs.declared.words.Reading.TheVariants.{Outside, Is}
use Rattle.fol_model.specs.TextNumbers.{is_natural, natural, negated, positive, within, reading, spelled}

natural_is : (w : List ℕ) → is_natural w ≡ true → natural w ≡ Some (digits_value 10 w)
natural_is w h = rw h refl

abbrev none_nat : Option ℕ
none_nat = None

pub own : IsNumeralModel (λ v. list_all is_ascii_digit v ≡ true) (digits_value 10)
own = numerals_by_value (λ v. list_all is_ascii_digit v ≡ true) (search rules)

-- ---- what is read is spelled so

alone : (d : ℕ) (ds : List ℕ) → (not (eqb d 48) || eqb (length ds) 0) ≡ true → d ≡ 48 → length (d ∷ ds) ≡ 1
alone d ds h e = elim (or_cases (not (eqb d 48)) (eqb (length ds) 0) h) [
  | inl a ↦ absurd (let k = rw e at a in cc)
  | inr b ↦ ap suc (eqb-true _ _ b)
]

pub natural_spelled : (w : List ℕ) (n : ℕ) → natural w ≡ Some n → n < 2 ^ 64 → decimal n ≡ w
natural_spelled [] n e small = absurd cc
natural_spelled (d ∷ ds) n e small = elim (cases_Bool (is_natural (d ∷ ds))) [
  | inl h ↦
      let p = and_parts (not (eqb d 48) || eqb (length ds) 0) (list_all is_ascii_digit (d ∷ ds)) h in
      let k : Some (digits_value 10 (d ∷ ds)) ≡ Some n = rw h at e in
      let v : digits_value 10 (d ∷ ds) ≡ n = cc in
      rw (← v) (decimal-digits_value own (d ∷ ds) p.1 (omega arith) (alone d ds p.0) (rw v small))
  | inr h ↦ absurd (let k : none_nat ≡ Some n = rw h at e in cc)
]

within_is : (low high : ℤ) (o : Option ℤ) (z : ℤ) → within low high o ≡ Is z → (o ≡ Some z) × (low ≤ℤ z) × (z ≤ℤ high)
within_is low high None z e = absurd cc
within_is low high (Some y) z e = elim (cases_Bool (int_lt y low || int_lt high y)) [
  | inl h ↦ absurd (let k : Outside ≡ Is z = rw h at e in cc)
  | inr h ↦
      let k : Is y ≡ Is z = rw h at e in
      let s : y ≡ z = cc in
      let a : int_lt y low ≡ false = (or_parts _ _ h).0 in
      let b : int_lt high y ≡ false = (or_parts _ _ h).1 in
      rw (← s) (refl, omega (arith, ints), omega (arith, ints))
]

positive_is : (o : Option ℕ) (z : ℤ) → positive o ≡ Some z → (n : ℕ) × (o ≡ Some n) × (z ≡ pos n)
positive_is None z e = absurd cc
positive_is (Some n) z e = (n, refl, cc)

some_long : (n : ℕ) → eqb (suc n) 0 ≡ false
some_long n = grind (arith, nat_tests)

negated_some : (n : ℕ) → negated (Some (suc n)) ≡ Some (negsuc n)
negated_some n = rw (some_long n) refl

negated_is : (o : Option ℕ) (z : ℤ) → negated o ≡ Some z → (n : ℕ) × (o ≡ Some (suc n)) × (z ≡ negsuc n)
negated_is None z e = absurd cc
negated_is (Some zero) z e = absurd cc
negated_is (Some (suc n)) z e = let k : Some (negsuc n) ≡ Some z = rw (← negated_some n) e in (n, refl, cc)

pub reading_is : (low high z : ℤ) (w : List ℕ) → negsuc 9999999998 ≤ℤ low → high ≤ℤ pos 9999999999 → reading low high w ≡ Is z → (low ≤ℤ z) × (z ≤ℤ high) × (spelled z ≡ w)
reading_is low high z [] nl nh e = absurd (let k = within_is low high None z e in cc)
reading_is low high z (b ∷ bs) nl nh e = elim (cases_Bool (int_lt low (pos 0) && eqb b 45)) [
  | inl h ↦
      let k = rw h at e in
      let i = within_is low high (negated (natural bs)) z k in
      let n = negated_is (natural bs) z i.0 in
      let small : suc n.0 < 2 ^ 64 = omega (arith, ints, subst (λ (y : ℤ). low ≤ℤ y) n.2 i.1) in
      let five : b ≡ 45 = eqb-true b 45 (and_parts (int_lt low (pos 0)) (eqb b 45) h).1 in
      (i.1, i.2, ap spelled n.2 ∙ ap (λ (t : List ℕ). 45 ∷ t) (natural_spelled bs (suc n.0) n.1 small) ∙ ap (λ (x : ℕ). x ∷ bs) (sym five))
  | inr h ↦
      let k = rw h at e in
      let i = within_is low high (positive (natural (b ∷ bs))) z k in
      let n = positive_is (natural (b ∷ bs)) z i.0 in
      let small : n.0 < 2 ^ 64 = omega (arith, ints, subst (λ (y : ℤ). y ≤ℤ high) n.2 i.2) in
      (i.1, i.2, ap spelled n.2 ∙ natural_spelled (b ∷ bs) n.0 n.1 small)
]

-- ---- what is spelled so is read

within_again : (low high z : ℤ) → low ≤ℤ z → z ≤ℤ high → within low high (Some z) ≡ Is z
within_again low high z l h =
    let a : int_lt z low ≡ false = elim (cases_Bool (int_lt z low)) [ inl e ↦ absurd (omega (arith, ints)) | inr e ↦ e ] in
    let b : int_lt high z ≡ false = elim (cases_Bool (int_lt high z)) [ inl e ↦ absurd (omega (arith, ints)) | inr e ↦ e ] in
    rw (a, b) refl

or_true2 : (b : Bool) → (b || true) ≡ true
or_true2 true = refl
or_true2 false = refl

first_is : (n : ℕ) (d : ℕ) (ds : List ℕ) → d ∷ ds ≡ decimal n → n < 2 ^ 64 → (not (eqb d 48) || eqb (length ds) 0) ≡ true
first_is zero d ds e small = let z : d ∷ ds ≡ 48 ∷ [] = e ∙ decimal_digit 0 (omega arith) in let k : ds ≡ [] = cc in rw k (or_true2 (not (eqb d 48)))
first_is (suc n) d ds e small =
    let f : 48 < d = let g = first_decimal (suc n) (omega arith) small in rw (← e) at g in
    let k : eqb d 48 ≡ false = grind (arith, nat_tests) in
    rw k refl

pub natural_again : (n : ℕ) (w : List ℕ) → w ≡ decimal n → n < 2 ^ 64 → natural w ≡ Some n
natural_again n [] e small = absurd (let k = decimal_nonempty n small in omega (arith, k, ap length e))
natural_again n (d ∷ ds) e small =
    let digits : list_all is_ascii_digit (d ∷ ds) ≡ true = subst (λ (v : List ℕ). list_all is_ascii_digit v ≡ true) (sym e) (digits_decimal own n small) in
    let a : is_natural (d ∷ ds) ≡ true = and_from _ _ (first_is n d ds e small) digits in
    natural_is (d ∷ ds) a ∙ ap (λ (k : ℕ). Some k) (ap (digits_value 10) e ∙ digits_value-decimal own n small)

plain_first : (low : ℤ) (d : ℕ) (ds : List ℕ) (n : ℕ) → natural (d ∷ ds) ≡ Some n → (int_lt low (pos 0) && eqb d 45) ≡ false
plain_first low d ds n e = elim (cases_Bool (int_lt low (pos 0) && eqb d 45)) [
  | inl h ↦
      let k : d ≡ 45 = eqb-true d 45 (and_parts (int_lt low (pos 0)) (eqb d 45) h).1 in
      absurd (let j : natural (45 ∷ ds) ≡ Some n = ap (λ (x : ℕ). natural (x ∷ ds)) (sym k) ∙ e in cc)
  | inr h ↦ h
]

positive_again : (low high : ℤ) (n : ℕ) (w : List ℕ) → w ≡ decimal n → low ≤ℤ pos n → pos n ≤ℤ high → n < 2 ^ 64 → reading low high w ≡ Is (pos n)
positive_again low high n [] e l h small = absurd (let k = decimal_nonempty n small in omega (arith, k, ap length e))
positive_again low high n (d ∷ ds) e l h small =
    let a = natural_again n (d ∷ ds) e small in
    rw (plain_first low d ds n a, a) (within_again low high (pos n) l h)

pub reading_again : (low high z : ℤ) → negsuc 9999999998 ≤ℤ low → high ≤ℤ pos 9999999999 → low ≤ℤ z → z ≤ℤ high → reading low high (spelled z) ≡ Is z
reading_again low high (pos n) nl nh l h = positive_again low high n (decimal n) refl l h (omega (arith, ints))
reading_again low high (negsuc n) nl nh l h =
    let a = natural_again (suc n) (decimal (suc n)) refl (omega (arith, ints)) in
    let b : int_lt low (pos 0) ≡ true = elim (cases_Bool (int_lt low (pos 0))) [ inl e ↦ e | inr e ↦ absurd (omega (arith, ints)) ] in
    rw (b, a, negated_some n) (within_again low high (negsuc n) l h)
