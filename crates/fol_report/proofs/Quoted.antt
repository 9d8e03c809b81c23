-- Lines in quotes with commas between, as they are put: a quote, each line but the last with a mark behind it, the last, and a quote.
use Rattle.std.proofs.Common.{◌≡◌, refl, sym, ap, ◌∙◌, List, [], ◌∷◌, ◌++◌, append_assoc, ℕ}
use Rattle.std.proofs.lemmas.List.{append-nil}
use Rattle.std.specs.Prelude.{codes}
use Rattle.fol_model.specs.LineWords.{Word}
use Rattle.fol_model.specs.JsonReport.{in_quotes, quoted_lines}
use Rattle.fol_model.specs.TextLines.{line_of}
use Rattle.fol_report.specs.Spaced.{joined, marked}
use Rattle.fol_report.proofs.Joined.{line_of_joined}

-- the mark in place of the end of one line, the comma and the begin of the next
regroup : (line others last : List ℕ) → (line ++ 34 ∷ []) ++ 44 ∷ 34 ∷ (others ++ last) ≡ ((line ++ codes "\",\"") ++ others) ++ last
regroup line others last =
    append_assoc line (34 ∷ []) (44 ∷ 34 ∷ (others ++ last))
    ∙ sym (append_assoc line (codes "\",\"") (others ++ last))
    ∙ sym (append_assoc (line ++ codes "\",\"") others last)

module _ {R : Type 0} (words : R → List Word) where
  -- a line before others
  one_more : (r : R) (rs : List R) (last : R) → quoted_lines words (r ∷ rs ++ last ∷ []) ≡ in_quotes (line_of (words r)) ++ 44 ∷ quoted_lines words (rs ++ last ∷ [])
  one_more r [] last = refl
  one_more r (s ∷ rs) last = refl

  pub quoted_to_last : (others : List R) (last : R) → quoted_lines words (others ++ last ∷ []) ≡ 34 ∷ (marked (codes "\",\"") words others ++ (joined (words last) ++ 34 ∷ []))
  quoted_to_last [] last = let e = line_of_joined (words last) in rw e (ap (λ t. 34 ∷ t) (append-nil (joined (words last) ++ 34 ∷ [])))
  quoted_to_last (r ∷ rs) last =
      let e = line_of_joined (words r) in
      let k = quoted_to_last rs last in
      rw (one_more r rs last, e, k) (ap (λ t. 34 ∷ t) (regroup (joined (words r)) (marked (codes "\",\"") words rs) (joined (words last) ++ 34 ∷ [])))
