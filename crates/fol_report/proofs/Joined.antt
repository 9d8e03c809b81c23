-- Words one after another are the line of these words.
use Rattle.std.proofs.Common.{◌≡◌, ℕ, refl, sym, ap, append_assoc, List, [], ◌++◌, ◌∷◌, codes, decimal, arith}
use Rattle.std.proofs.lemmas.List.{append-nil}
use Rattle.std.proofs.lemmas.Fmt.{decimal_digit}
use Rattle.fol_model.specs.LineWords.{Word, lines_of}
use Rattle.fol_model.specs.TextLines.{line_of}
use Rattle.fol_model.specs.ReportWords.{end_words}
use Rattle.fol_report.specs.Spaced.{spaced, joined, joined_lines}

after_first : (w : Word) (ws : List Word) → line_of (w ∷ ws) ≡ w ++ spaced ws
after_first w [] = sym (append-nil w)
after_first w (v ∷ vs) = ap (λ t. w ++ 32 ∷ t) (after_first v vs)

pub line_of_joined : (ws : List Word) → line_of ws ≡ joined ws
line_of_joined [] = refl
line_of_joined (w ∷ ws) = after_first w ws

pub joined_lines_of : {R : Type 0} (words : R → List Word) (rows : List R) → joined_lines words rows ≡ lines_of words rows
joined_lines_of words [] = refl
joined_lines_of words (r ∷ rows) = let e = line_of_joined (words r) in let k = joined_lines_of words rows in rw (e, k) refl

-- the line of an end, where no task ran and none was asked for
pub quiet_end : (worker region tick : ℕ) → joined (end_words worker region tick [] [])
    ≡ joined (codes "end" ∷ decimal worker ∷ decimal region ∷ codes "tick" ∷ decimal tick ∷ []) ++ codes " ran 0 accepted 0"
quiet_end worker region tick = let zero : decimal 0 ≡ 48 ∷ [] = decimal_digit 0 (omega arith) in rw zero (simp append_assoc)
