-- A text that is cut behind a line end: the lines of both parts are those of the text.
use Rattle.std.proofs.Common.{◌≡◌, ℕ, zero, suc, ◌+◌, ◌-◌, ◌<◌, inl, inr, true, eqb, List, [], ◌∷◌, ◌++◌, length, take, drop, Some, refl, sym, ap, subst, ◌∙◌, arith, add-one, get_or}
use Rattle.std.specs.List.{onto_first}
use Rattle.std.proofs.lemmas.Bool.{cases_Bool}
use Rattle.std.proofs.lemmas.List.{get_or-drop, length-drop}
use Rattle.memchr.specs.Find.{IsFirstByte, is_byte}
use Rattle.fol_model.specs.TextLines.{lines}
use Rattle.fol_script.proofs.Cuts.{feed, rest_of}

onto_more : (b : ℕ) (xs ys : List (List ℕ)) → 0 < length xs → onto_first b xs ++ ys ≡ onto_first b (xs ++ ys)
onto_more b [] ys h = absurd (omega (arith, h))
onto_more b (x ∷ xs) ys h = refl

onto_some : (b : ℕ) (xs : List (List ℕ)) → 0 < length (onto_first b xs)
onto_some b [] = omega arith
onto_some b (x ∷ xs) = omega arith

front_some : (text : List ℕ) (m : ℕ) → m < length text → 0 < length (lines (take (suc m) text))
front_some [] m h = absurd (omega (arith, h))
front_some (b ∷ bs) m h = elim (cases_Bool (eqb b 10)) [ inl e ↦ rw e (omega arith) | inr e ↦ rw e (onto_some b (lines (take m bs))) ]

behind_feed : (text : List ℕ) (m : ℕ) → m < length text → feed (get_or text m 0) ≡ true → lines (take (suc m) text) ++ lines (drop (suc m) text) ≡ lines text
behind_feed [] m h e = absurd (omega (arith, h))
behind_feed (b ∷ bs) zero h e = rw e refl
behind_feed (b ∷ bs) (suc m) h e =
    let more : m < length bs = omega (arith, h) in
    let k = behind_feed bs m more e in
    elim (cases_Bool (eqb b 10)) [
      | inl f ↦ rw f (ap (λ (ls : List (List ℕ)). [] ∷ ls) k)
      | inr f ↦ rw f (onto_more b (lines (take (suc m) bs)) (lines (drop (suc m) bs)) (front_some bs m more) ∙ ap (onto_first b) k)
    ]

pub cut_behind : (text : List ℕ) (size n : ℕ) → IsFirstByte (is_byte 10) (take (length text - size) (drop size text)) (Some n) → lines (take (size + n + 1) text) ++ lines (drop (size + n + 1) text) ≡ lines text
cut_behind text size n h =
    let found = subst (λ (t : List ℕ). IsFirstByte (is_byte 10) t (Some n)) (rest_of text size) h in
    let first = found.0 in
    let place : size + n < length text = omega (arith, first.high, length-drop size text) in
    let is : feed (get_or text (size + n) 0) ≡ true = ap feed (sym (get_or-drop size text n 0)) ∙ found.1 in
    subst (λ (k : ℕ). lines (take k text) ++ lines (drop k text) ≡ lines text) (sym (add-one (size + n))) (behind_feed text (size + n) place is)
