-- The first line and the first word.
use Rattle.std.proofs.Common.{◌≡◌, ℕ, suc, ◌+◌, ◌-◌, ◌<◌, ◌≤◌, inl, inr, Bool, true, false, eqb, List, [], ◌∷◌, length, take, drop, Some, None, refl, sym, ◌∙◌, arith, add-one, get_or}
use Rattle.std.specs.List.{position_or_len}
use Rattle.std.proofs.lemmas.Bool.{cases_Bool}
use Rattle.std.proofs.lemmas.List.Splits.{slice_split_first}
use Rattle.std.proofs.lemmas.List.{take_all, length-drop}
use Rattle.std.proofs.Math.ListN.{drop_of_length-le}
use Rattle.std.proofs.lemmas.List.Sums.{position_or_len_is}
use Rattle.std.proofs.lemmas.Bool.Decides.{nat_tests}
use Rattle.memchr.specs.Find.{IsFirstByte, is_byte}
use Rattle.fol_model.specs.TextLines.{lines, words}

abbrev pub feed : ℕ → Bool
feed b = eqb b 10

abbrev pub space : ℕ → Bool
space b = eqb b 32

one_more : (b n : ℕ) (bs : List ℕ) → (b ∷ take n bs) ∷ lines (drop (n + 1) bs) ≡ take (1 + n) (b ∷ bs) ∷ lines (drop ((1 + n) + 1) (b ∷ bs))
one_more b n bs =
    let e : 1 + n ≡ suc n = omega arith in
    rw (e, add-one) (rw add-one refl)

lines_first : (b : ℕ) (bs : List ℕ) → lines (b ∷ bs) ≡ take (position_or_len feed (b ∷ bs)) (b ∷ bs) ∷ lines (drop (position_or_len feed (b ∷ bs) + 1) (b ∷ bs))
lines_first b [] = elim (cases_Bool (eqb b 10)) [ inl e ↦ rw e refl | inr e ↦ rw e refl ]
lines_first b (c ∷ bs) = elim (cases_Bool (eqb b 10)) [ inl e ↦ rw e refl | inr e ↦ rw (e, lines_first c bs) (one_more b (position_or_len feed (c ∷ bs)) (c ∷ bs)) ]

pub first_line : (text : List ℕ) (n : ℕ) → 0 < length text → n ≡ position_or_len feed text → lines text ≡ take n text ∷ lines (drop (n + 1) text)
first_line [] n h e = absurd (omega arith)
first_line (b ∷ bs) n h e = rw e (lines_first b bs)

pub one_word : (text : List ℕ) → length text ≤ position_or_len space text → words text ≡ text ∷ []
one_word [] h = refl
one_word (b ∷ bs) h = elim (cases_Bool (eqb b 32)) [
  | inl e ↦ absurd (let k = rw e at h in omega (arith, k))
  | inr e ↦ let k = rw e at h in rw (e, one_word bs (omega (arith, k))) refl
]

pub first_word : (text : List ℕ) (n : ℕ) → n < length text → n ≡ position_or_len space text → words text ≡ take n text ∷ words (drop (n + 1) text)
first_word text n h e = rw e (slice_split_first space text 0 (rw (← e) h))

pub rest_of : (text : List ℕ) (n : ℕ) → take (length text - n) (drop n text) ≡ drop n text
rest_of text n = take_all (length text - n) (drop n text) (omega (arith, length-drop n text))

pub last_line : (text : List ℕ) (n : ℕ) → length text ≤ n → lines text ≡ take n text ∷ lines (drop (n + 1) text) → lines text ≡ text ∷ lines (take (length text - n) (drop n text))
last_line text n h e =
    let a : drop (n + 1) text ≡ [] = drop_of_length-le text (omega arith) in
    let b : drop n text ≡ [] = drop_of_length-le text h in
    let k : take n text ≡ text = take_all n text h in
    e ∙ rw (rest_of text n, a, b, k) refl

is_same : (a b : ℕ) → a ≡ b → eqb a b ≡ true
is_same a b e = grind (arith, nat_tests)

pub up_to_end : (text : List ℕ) (n b : ℕ) → n ≤ length text → ((k : ℕ) → k < n → eqb (get_or text k 0) b ≡ false) → (n < length text → get_or text n 0 ≡ b) → n ≡ position_or_len (λ x. eqb x b) text
up_to_end text n b h before here = sym (position_or_len_is (λ x. eqb x b) text n 0 h before (λ lt. is_same _ b (here lt)))

-- ---- a line feed that was searched for

untrue : (b : Bool) → (b ≡ true → ⊥) → b ≡ false
untrue true h = absurd (h refl)
untrue false h = refl

pub feed_at : (text : List ℕ) (n : ℕ) → IsFirstByte (is_byte 10) text (Some n) → n ≡ position_or_len feed text
feed_at text n h =
    let first = h.0 in
    sym (position_or_len_is feed text n 0 (omega (arith, first.high)) (λ k lt. untrue _ (first.before k (omega arith) lt)) (λ _. h.1))

pub no_feed : (text : List ℕ) → IsFirstByte (is_byte 10) text None → length text ≡ position_or_len feed text
no_feed text h = sym (position_or_len_is feed text (length text) 0 (omega arith) (λ k lt. untrue _ (h k (omega arith) lt)) (λ lt. absurd (omega (arith, lt))))
