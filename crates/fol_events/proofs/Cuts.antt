-- Where a line ends.
use Rattle.std.proofs.Common.{take, drop, ◌-◌, Some, None, ◌≤◌, ◌+◌, inl, inr, suc, ◌≡◌, ℕ, ◌<◌, ◌∙◌, refl, sym, ap, arith, true, false, not, eqb, List, [], ◌∷◌, ◌++◌, length, append_assoc}
use Rattle.std.specs.List.{list_all}
use Rattle.std.specs.Prelude.{nat_lt, cond, Option}
use Rattle.std.specs.List.{position, position_or_len}
use Rattle.std.proofs.lemmas.List.{take_rest}
use Rattle.std.proofs.lemmas.Bool.{and_parts, and_from, cases_Bool, eqb-true}
use Rattle.std.proofs.lemmas.Bool.Decides.{nat_tests}
use Rattle.std.proofs.lemmas.List.Splits.{join_with_byte-slice_split}
use Rattle.fol_model.specs.declared.events.Event.{Event}
use Rattle.fol_model.specs.TextLines.{words, line_of}
use Rattle.fol_model.specs.LineWords.{Word, line}
use Rattle.fol_model.specs.ReportWords.{event_words}
use Rattle.fol_report_laws.proofs.Rows.{is_in_line, is_ink_word, line_words, line_in_line}
use Rattle.fol_report_laws.proofs.InkWords.{entries_ink}
use Rattle.fol_events.specs.Cuts.{has_no_feed}

no_feed : (b : ℕ) → is_in_line b ≡ true → not (eqb b 10) ≡ true
no_feed b h = grind (arith, nat_tests)

in_line_no_feed : (l : List ℕ) → list_all is_in_line l ≡ true → has_no_feed l ≡ true
in_line_no_feed [] h = refl
in_line_no_feed (b ∷ bs) h =
    let p = and_parts (is_in_line b) (list_all is_in_line bs) h in
    and_from (not (eqb b 10)) (has_no_feed bs) (no_feed b p.0) (in_line_no_feed bs p.1)

-- bytes with the end of a line hold a line feed
pub feed_in : (l a : List ℕ) → has_no_feed (l ++ 10 ∷ a) ≡ true → ⊥
feed_in [] a h = absurd cc
feed_in (b ∷ bs) a h = feed_in bs a (and_parts (not (eqb b 10)) (has_no_feed (bs ++ 10 ∷ a)) h).1

no_feed_first : (b : ℕ) (bs : List ℕ) → has_no_feed (b ∷ bs) ≡ true → b ≡ 10 → ⊥
no_feed_first b bs h e = let p = (and_parts (not (eqb b 10)) (has_no_feed bs) h).0 in let k : not (eqb 10 10) ≡ true = ap (λ (x : ℕ). not (eqb x 10)) (sym e) ∙ p in absurd cc

-- bytes have one first line
pub one_cut : (l m a b : List ℕ) → has_no_feed l ≡ true → has_no_feed m ≡ true → l ++ 10 ∷ a ≡ m ++ 10 ∷ b → (l ≡ m) × (a ≡ b)
one_cut [] [] a b h k e = (refl, cc)
one_cut [] (y ∷ m) a b h k e = absurd (no_feed_first y m k cc)
one_cut (x ∷ l) [] a b h k e = absurd (no_feed_first x l h cc)
one_cut (x ∷ l) (y ∷ m) a b h k e =
    let rest : l ++ 10 ∷ a ≡ m ++ 10 ∷ b = cc in
    let r = one_cut l m a b (and_parts (not (eqb x 10)) (has_no_feed l) h).1 (and_parts (not (eqb y 10)) (has_no_feed m) k).1 rest in
    let first : x ≡ y = cc in
    let same = r.0 in (cc, r.1)

pub line_end : (ws : List Word) (more : List ℕ) → line ws ++ more ≡ line_of ws ++ 10 ∷ more
line_end ws more = append_assoc (line_of ws) (10 ∷ []) more

pub line_no_feed : (ws : List Word) → 0 < length ws → list_all is_ink_word ws ≡ true → has_no_feed (line_of ws) ≡ true
line_no_feed ws some ink = in_line_no_feed (line_of ws) (line_in_line ws some ink)

-- the first line of bytes that begin with the line of some words
pub line_cut : (ws : List Word) (l a more : List ℕ) → 0 < length ws → list_all is_ink_word ws ≡ true → has_no_feed l ≡ true → l ++ 10 ∷ a ≡ line ws ++ more → (l ≡ line_of ws) × (a ≡ more)
line_cut ws l a more some ink h e = one_cut l (line_of ws) a more h (line_no_feed ws some ink) (e ∙ line_end ws more)

-- ---- the line of an event

pub event_some : (e : Event) → 0 < length (event_words e)
event_some e = entries_ink.some (record { by = 0; event = e })

pub event_ink : (e : Event) → list_all is_ink_word (event_words e) ≡ true
event_ink e = entries_ink.ink (record { by = 0; event = e })

pub words_of_event : (e : Event) (l : List ℕ) → l ≡ line_of (event_words e) → words l ≡ event_words e
words_of_event e l h = ap words h ∙ line_words (event_words e) (event_some e) (event_ink e)

pub line_of_words : (ws : List Word) (l : List ℕ) → ws ≡ words l → l ≡ line_of ws
line_of_words ws l h = sym (join_with_byte-slice_split 32 l) ∙ ap line_of (sym h)

-- ---- the first line feed

pub none_before : (bytes : List ℕ) → length bytes ≤ position_or_len (λ b. eqb b 10) bytes → has_no_feed bytes ≡ true
none_before [] h = refl
none_before (b ∷ bs) h = elim (cases_Bool (eqb b 10)) [
  | inl e ↦ absurd (let k = rw e at h in omega (arith, k))
  | inr e ↦ let k = rw e at h in rw e (none_before bs (omega (arith, k)))
]

one_more : (b n : ℕ) (bs : List ℕ) → eqb b 10 ≡ false → (has_no_feed (take n bs) ≡ true) × (bs ≡ take n bs ++ 10 ∷ drop (n + 1) bs) → (has_no_feed (take (1 + n) (b ∷ bs)) ≡ true) × (b ∷ bs ≡ take (1 + n) (b ∷ bs) ++ 10 ∷ drop ((1 + n) + 1) (b ∷ bs))
one_more b n bs e r =
    let j : n + 1 ≡ suc n = omega arith in
    let k : 1 + n ≡ suc n = omega arith in
    let l : (1 + n) + 1 ≡ suc (suc n) = omega arith in
    rw (l, k) (rw e r.0, ap (λ (x : List ℕ). b ∷ x) (r.1 ∙ ap (λ (m : ℕ). take n bs ++ 10 ∷ drop m bs) j))

pub feed_at : (bytes : List ℕ) → position_or_len (λ b. eqb b 10) bytes < length bytes → (has_no_feed (take (position_or_len (λ b. eqb b 10) bytes) bytes) ≡ true) × (bytes ≡ take (position_or_len (λ b. eqb b 10) bytes) bytes ++ 10 ∷ drop (position_or_len (λ b. eqb b 10) bytes + 1) bytes)
feed_at [] h = absurd (omega arith)
feed_at (b ∷ bs) h = elim (cases_Bool (eqb b 10)) [
  | inl e ↦ let k = eqb-true b 10 e in rw e (refl, ap (λ (x : ℕ). x ∷ bs) k)
  | inr e ↦ let k = rw e at h in rw e (one_more b (position_or_len (λ x. eqb x 10) bs) bs e (feed_at bs (omega (arith, k))))
]

-- a place that a test found, and none
abbrev at_most : ℕ → ℕ → Option ℕ
at_most p n = cond (nat_lt p n) (Some p) None

no_place : (p n : ℕ) → None ≡ at_most p n → n ≤ p
no_place p n e = elim (cases_Bool (nat_lt p n)) [
  | inl h ↦ absurd (let k : None ≡ Some p = rw h at e in cc)
  | inr h ↦ grind (arith, nat_tests)
]

one_place : (p n i : ℕ) → Some i ≡ at_most p n → (p ≡ i) × (p < n)
one_place p n i e = elim (cases_Bool (nat_lt p n)) [
  | inl h ↦ (let k : Some i ≡ Some p = rw h at e in cc, grind (arith, nat_tests))
  | inr h ↦ absurd (let k : Some i ≡ None = rw h at e in cc)
]

pub none_cut : (bytes : List ℕ) → None ≡ position (λ b. eqb b 10) bytes → has_no_feed bytes ≡ true
none_cut bytes e = none_before bytes (no_place (position_or_len (λ b. eqb b 10) bytes) (length bytes) e)

pub some_cut : (bytes : List ℕ) (n : ℕ) → Some n ≡ position (λ b. eqb b 10) bytes → (has_no_feed (take n bytes) ≡ true) × (bytes ≡ take n bytes ++ 10 ∷ take (length bytes - (n + 1)) (drop (n + 1) bytes))
some_cut bytes n e =
    let p = one_place (position_or_len (λ b. eqb b 10) bytes) (length bytes) n e in
    rw (take_rest bytes (n + 1), ← p.0) (feed_at bytes p.1)
