-- Reading digits from the left, with far numbers kept apart.
use Rattle.std.proofs.Common.{◌≡◌, ℕ, zero, suc, ◌+◌, ◌⊎◌, ◌-◌, ◌-ℤ◌, ◌*◌, ◌<◌, ◌≤◌, inl, inr, true, false, List, [], ◌∷◌, length, get_or, take, drop, refl, sym, ap, ◌∙◌, arith}
use Rattle.std.specs.Char.{digit_value}
use Rattle.std.specs.Str.Parse.{AllDigits, digits_value}
use Rattle.std.proofs.lemmas.Str.Parse.{numerals_by_value}
use Rattle.fol_script.specs.Letters.{is_no_digit}
use Rattle.std.specs.List.{position_or_len}
use Rattle.std.proofs.lemmas.List.Sums.{position_or_len_is, fails_before_first}
use Rattle.std.proofs.lemmas.List.{take_all}
use Rattle.std.proofs.lemmas.Int.Digits.{digits_value_more}
use Rattle.std.proofs.lemmas.Bool.Decides.{nat_tests}
use Rattle.std.proofs.lemmas.Bool.{cases_lt}
use Rattle.std.proofs.Common.{ℤ, pos, negsuc, neg_ℤ, ◌≤ℤ◌, ◌≢◌, Some, None, int_lt, rules, eqb, Bool, not, ◌&&◌, ◌||◌, subst}
use borrow.Author.Differences.{ints}
use Rattle.std.specs.Char.{is_ascii_digit}
use Rattle.std.specs.List.{list_all}
use Rattle.std.proofs.lemmas.Bool.{and_parts, cases_Bool, eqb-true}
use Rattle.fol_model.specs.declared.words.Reading.TheVariants.{NoNumber, Outside}
use Rattle.fol_model.specs.TextNumbers.{Near, is_natural, natural, within, negated, positive, reading}
use Rattle.fol_model.specs.TextLines.{words}
use Rattle.fol_script.proofs.Cuts.{one_word, up_to_end}

pub digit_is : (c : ℕ) → 48 ≤ c → c ≤ 57 → digit_value c ≡ c - 48
digit_is c low high = grind (arith, nat_tests)

pub more_near : (ds : List ℕ) (i m : ℕ) → 48 ≤ get_or ds i 0 → get_or ds i 0 ≤ 57 → i < length ds → m < 10000000000 → Near m (digits_value 10 (take i ds)) → Near (m * 10 + (get_or ds i 0 - 48)) (digits_value 10 (take (i + 1) ds))
more_near ds i m low high lt small near =
    let d = digit_is (get_or ds i 0) low high in
    let e = digits_value_more 10 ds i lt in (
      omega (arith, high),
      elim near.1 [
        | inl same ↦ inl (rw (e, d, same) refl)
        | inr far ↦ absurd (omega (arith, far.0))
      ],
    )

pub far_near : (ds : List ℕ) (i m : ℕ) → i < length ds → 10000000000 ≤ m → Near m (digits_value 10 (take i ds)) → Near m (digits_value 10 (take (i + 1) ds))
far_near ds i m lt far near =
    let e = digits_value_more 10 ds i lt in (
      near.0,
      elim near.1 [
        | inl same ↦ inr (far, omega (arith, e, same))
        | inr both ↦ inr (far, omega (arith, e, both.1))
      ],
    )

eqb_of_ne : (n : ℕ) → n ≢ 0 → eqb n 0 ≡ false
eqb_of_ne n h = elim (cases_Bool (eqb n 0)) [ inl e ↦ absurd (h (eqb-true n 0 e)) | inr e ↦ e ]

pub step_near : (ds : List ℕ) (i m n : ℕ) → 48 ≤ get_or ds i 0 → get_or ds i 0 ≤ 57 → i < length ds → (10000000000 ≤ m → n ≡ m) → (m < 10000000000 → n ≡ m * 10 + (get_or ds i 0 - 48)) → Near m (digits_value 10 (take i ds)) → Near n (digits_value 10 (take (i + 1) ds))
step_near ds i m n least most lt far near so_far =
    elim (cases_lt m 10000000000) [
      | inl small ↦ rw (near small) (more_near ds i m least most lt small so_far)
      | inr large ↦ rw (far large) (far_near ds i m lt large so_far)
    ]

pub more_below : (text : List ℕ) (n : ℕ) → is_ascii_digit (get_or text n 0) ≡ true → ((k : ℕ) → k < n → is_no_digit (get_or text k 0) ≡ false) → (k : ℕ) → k < n + 1 → is_no_digit (get_or text k 0) ≡ false
more_below text n here before k lt = elim (cases_lt k n) [
  | inl below ↦ before k below
  | inr at ↦ let e : k ≡ n = omega (arith, lt, at) in subst (λ (j : ℕ). is_no_digit (get_or text j 0) ≡ false) (sym e) (ap not here)
]

pub front_end : (text : List ℕ) (n : ℕ) → n ≤ length text → ((k : ℕ) → k < n → is_no_digit (get_or text k 0) ≡ false) → (n < length text → is_no_digit (get_or text n 0) ≡ true) → n ≡ position_or_len is_no_digit text
front_end text n h before here = sym (position_or_len_is is_no_digit text n 0 h before here)

more_front : (n m : ℕ) → eqb n m ≡ eqb (1 + n) (suc m)
more_front n m = grind (arith, nat_tests)

none_front : (m : ℕ) → false ≡ eqb 0 (suc m)
none_front m = grind (arith, nat_tests)

-- all are digits where as many stand in front
pub all_front : (w : List ℕ) → list_all is_ascii_digit w ≡ eqb (position_or_len is_no_digit w) (length w)
all_front [] = refl
all_front (b ∷ bs) = elim (cases_Bool (is_ascii_digit b)) [
  | inl e ↦ rw e (all_front bs ∙ more_front (position_or_len is_no_digit bs) (length bs))
  | inr e ↦ rw e (none_front (length bs))
]

spelled_front : (d : ℕ) (ds : List ℕ) (n : ℕ) → n ≡ position_or_len is_no_digit (d ∷ ds) → ((not (eqb d 48) || eqb (length ds) 0) && eqb n (length (d ∷ ds))) ≡ is_natural (d ∷ ds)
spelled_front d ds n e = ap (λ (b : Bool). (not (eqb d 48) || eqb (length ds) 0) && b) (ap (λ (k : ℕ). eqb k (length (d ∷ ds))) e ∙ sym (all_front (d ∷ ds)))

may_begin : (d : ℕ) (ds : List ℕ) → (d ≢ 48) ⊎ (length (d ∷ ds) ≡ 1) → (not (eqb d 48) || eqb (length ds) 0) ≡ true
may_begin d ds why = elim (cases_Bool (eqb d 48)) [
  | inl e ↦ elim why [ inl h ↦ absurd (h (eqb-true d 48 e)) | inr h ↦ let z : length ds ≡ 0 = omega (arith, h) in rw (e, z) refl ]
  | inr e ↦ rw e refl
]

pub stands_alone : (w : List ℕ) → 1 ≤ length w → eqb (length (take (length w - 1) (drop 1 w))) 0 ≡ true → length w ≡ 1
stands_alone [] some e = absurd (omega arith)
stands_alone (d ∷ ds) some e =
    let rest : take (length (d ∷ ds) - 1) ds ≡ ds = take_all (length (d ∷ ds) - 1) ds (omega arith) in
    let none : length ds ≡ 0 = eqb-true _ _ (rw rest at e) in
    omega (arith, none)

pub spelled_word : (w : List ℕ) (n : ℕ) → 1 ≤ length w → (get_or w 0 0 ≢ 48) ⊎ (length w ≡ 1) → n ≡ position_or_len is_no_digit w → eqb n (length w) ≡ is_natural w
spelled_word [] n some why e = absurd (omega arith)
spelled_word (d ∷ ds) n some why e = ap (λ (b : Bool). b && eqb n (length (d ∷ ds))) (sym (may_begin d ds why)) ∙ spelled_front d ds n e

ge_of_eq : (n m : ℕ) → n ≡ m → m ≤ n
ge_of_eq n m e = omega (arith, e)

-- a whole word in front
pub natural_near : (w : List ℕ) (n m : ℕ) → n ≡ position_or_len is_no_digit w → is_natural w ≡ true → Near m (digits_value 10 (take n w)) → Near m (digits_value 10 w)
natural_near [] n m e h near = absurd cc
natural_near (d ∷ ds) n m e h near =
    let all : eqb (position_or_len is_no_digit (d ∷ ds)) (length (d ∷ ds)) ≡ true = sym (all_front (d ∷ ds)) ∙ (and_parts _ _ h).1 in
    let whole : n ≡ length (d ∷ ds) = e ∙ eqb-true _ _ all in
    subst (λ (w : List ℕ). Near m (digits_value 10 w)) (take_all n (d ∷ ds) (ge_of_eq n _ whole)) near

pub natural_digits : (w : List ℕ) → is_natural w ≡ true → AllDigits 10 w
natural_digits [] h = tt
natural_digits (d ∷ ds) h = (numerals_by_value (λ v. list_all is_ascii_digit v ≡ true) (search rules)).to (d ∷ ds) (and_parts _ _ h).1

pub natural_is : (w : List ℕ) → is_natural w ≡ true → natural w ≡ Some (digits_value 10 w)
natural_is w h = rw h refl

pub natural_none : (w : List ℕ) → is_natural w ≡ false → natural w ≡ None
natural_none w h = rw h refl

past : (a : ℤ) (m : ℕ) → a ≤ℤ pos 9999999999 → 10000000000 ≤ m → int_lt a (pos m) ≡ true
past a m bound far = elim (cases_Bool (int_lt a (pos m))) [ inl e ↦ e | inr e ↦ absurd (omega (arith, ints)) ]

below : (a : ℤ) (m : ℕ) → negsuc 9999999998 ≤ℤ a → 10000000000 ≤ m → int_lt (neg_ℤ (pos m)) a ≡ true
below a m bound far = elim (cases_Bool (int_lt (neg_ℤ (pos m)) a)) [ inl e ↦ e | inr e ↦ absurd (omega (arith, ints)) ]

outside_high : (low high z : ℤ) → int_lt high z ≡ true → within low high (Some z) ≡ Outside
outside_high low high z e = elim (cases_Bool (int_lt z low)) [ inl d ↦ rw d refl | inr d ↦ rw (d, e) refl ]

outside_low : (low high z : ℤ) → int_lt z low ≡ true → within low high (Some z) ≡ Outside
outside_low low high z e = rw e refl

pub positive_near : (low high : ℤ) (m n : ℕ) → high ≤ℤ pos 9999999999 → Near m n → within low high (Some (pos m)) ≡ within low high (Some (pos n))
positive_near low high m n bound near = elim near.1 [
  | inl same ↦ ap (λ (k : ℕ). within low high (Some (pos k))) same
  | inr far ↦ outside_high low high (pos m) (past high m bound far.0) ∙ sym (outside_high low high (pos n) (past high n bound far.1))
]

pub negative_near : (low high : ℤ) (m n : ℕ) → negsuc 9999999998 ≤ℤ low → Near m n → within low high (Some (neg_ℤ (pos m))) ≡ within low high (Some (neg_ℤ (pos n)))
negative_near low high m n bound near = elim near.1 [
  | inl same ↦ ap (λ (k : ℕ). within low high (Some (neg_ℤ (pos k)))) same
  | inr far ↦ outside_low low high (neg_ℤ (pos m)) (below low m bound far.0) ∙ sym (outside_low low high (neg_ℤ (pos n)) (below low n bound far.1))
]

pub positive_read : (low high : ℤ) (m : ℕ) (w : List ℕ) → high ≤ℤ pos 9999999999 → is_natural w ≡ true → Near m (digits_value 10 w) → within low high (Some (pos m)) ≡ within low high (positive (natural w))
positive_read low high m w bound h near = rw (natural_is w h) (positive_near low high m (digits_value 10 w) bound near)

pub negative_read : (low high : ℤ) (m : ℕ) (w : List ℕ) → negsuc 9999999998 ≤ℤ low → is_natural w ≡ true → m ≢ 0 → Near m (digits_value 10 w) → within low high (Some (neg_ℤ (pos m))) ≡ within low high (negated (natural w))
negative_read low high m w bound h some near =
    let n : digits_value 10 w ≢ 0 = elim near.1 [ inl same ↦ rw (← same) some | inr far ↦ omega (arith, far.1) ] in
    let e : eqb (digits_value 10 w) 0 ≡ false = eqb_of_ne (digits_value 10 w) n in
    rw (natural_is w h, e) (negative_near low high m (digits_value 10 w) bound near)

pub no_negative : (low high : ℤ) (m : ℕ) (w : List ℕ) → is_natural w ≡ true → m ≡ 0 → Near m (digits_value 10 w) → within low high (negated (natural w)) ≡ NoNumber
no_negative low high m w h none near =
    let n : digits_value 10 w ≡ 0 = elim near.1 [ inl same ↦ omega arith | inr far ↦ absurd (omega (arith, far.0)) ] in
    rw (natural_is w h, n) refl

pub taken_from_0 : (n : ℕ) → pos 0 -ℤ pos n ≡ neg_ℤ (pos n)
taken_from_0 zero = refl
taken_from_0 (suc n) = grind (arith, nat_tests)

-- ---- digits in front of a text, up to a space or the end

no_space : (b : ℕ) → is_no_digit b ≡ false → eqb b 32 ≡ false
no_space b h = grind (arith, nat_tests)

no_sign : (b : ℕ) → is_no_digit b ≡ false → eqb b 45 ≡ false
no_sign b h = grind (arith, nat_tests)

digits_before : (text : List ℕ) → position_or_len is_no_digit text ≤ position_or_len (λ b. eqb b 32) text
digits_before [] = omega arith
digits_before (b ∷ bs) = elim (cases_Bool (is_no_digit b)) [
  | inl e ↦ rw e (omega arith)
  | inr e ↦ let s = no_space b e in let rest = digits_before bs in rw (e, s) (omega (arith, rest))
]

pub one_number : (text : List ℕ) (n : ℕ) → n ≡ position_or_len is_no_digit text → n ≡ length text → words text ≡ text ∷ []
one_number text n e whole = one_word text (let below = digits_before text in omega (arith, below, e, whole))

pub space_behind : (text : List ℕ) (n : ℕ) → n ≡ position_or_len is_no_digit text → n ≤ length text → get_or text n 0 ≡ 32 → n ≡ position_or_len (λ b. eqb b 32) text
space_behind text n e within here =
    up_to_end text n 32 within (λ k lt. no_space (get_or text k 0) (fails_before_first is_no_digit text k 0 (omega (arith, lt, e)))) (λ _. here)

pub front_is_digits : (text : List ℕ) (n : ℕ) → n ≡ position_or_len is_no_digit text → length (take n text) ≡ position_or_len is_no_digit (take n text)
front_is_digits text n e = rw e (all_of_front text)
  where
    all_of_front : (text : List ℕ) → length (take (position_or_len is_no_digit text) text) ≡ position_or_len is_no_digit (take (position_or_len is_no_digit text) text)
    all_of_front [] = refl
    all_of_front (b ∷ bs) = elim (cases_Bool (is_no_digit b)) [
      | inl e ↦ rw e refl
      | inr e ↦
          let more : 1 + position_or_len is_no_digit bs ≡ suc (position_or_len is_no_digit bs) = omega arith in
          rw (e, more, e) (let rest = all_of_front bs in omega (arith, rest))
    ]

-- a word of digits has no sign, whatever the range
pub digits_reading : (low high : ℤ) (w : List ℕ) → length w ≡ position_or_len is_no_digit w → within low high (positive (natural w)) ≡ reading low high w
digits_reading low high [] all = refl
digits_reading low high (b ∷ bs) all = elim (cases_Bool (is_no_digit b)) [
  | inl e ↦ absurd (let h = rw e at all in omega (arith, h))
  | inr e ↦ let s = no_sign b e in rw (s, no_and (int_lt low (pos 0))) refl
]
  where
    no_and : (c : Bool) → (c && false) ≡ false
    no_and true = refl
    no_and false = refl

pub no_digits_reading : (low high : ℤ) (w : List ℕ) → length w ≡ position_or_len is_no_digit w → is_natural w ≡ false → NoNumber ≡ reading low high w
no_digits_reading low high w all none = ap (λ n. within low high (positive n)) (sym (natural_none w none)) ∙ digits_reading low high w all
