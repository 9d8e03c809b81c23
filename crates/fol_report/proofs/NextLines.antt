-- The lines that are left, as the next of them are put in a page.
use Rattle.std.proofs.Common.{◌≡◌, ℕ, ap, append_assoc, sym, ◌∙◌, List, [], ◌++◌, drop, refl, Option, Some, None, is_some, false}
use Rattle.std.proofs.lemmas.List.{append-nil}
use Rattle.fol_report.specs.Histories.{line_left}
use Rattle.fol_report.specs.declared.rest.Rest.{Rest}

-- the line goes on
pub gone_on : (given : ℕ) (page page' left left' rows all : List ℕ) → given ≡ 0 → page ++ (left ++ rows) ≡ all → page' ++ left' ≡ page ++ left → drop given page' ++ (left' ++ rows) ≡ all
gone_on given page page' left left' rows all none is e =
    rw none (sym (append_assoc page' left' rows) ∙ ap (λ t. t ++ rows) e ∙ append_assoc page left rows ∙ is)

-- and where it is at its end other lines are put behind it
pub gone_by : (given : ℕ) (page page' page'' left left' rows rows' all : List ℕ) → given ≡ 0 → page ++ (left ++ rows) ≡ all → page' ++ left' ≡ page ++ left → left' ≡ []
    → page'' ++ rows' ≡ page' ++ rows → drop given page'' ++ (left' ++ rows') ≡ all
gone_by given page page' page'' left left' rows rows' all none is e end f =
    rw (none, end)
    (f ∙ ap (λ t. t ++ rows) (sym (append-nil page') ∙ ap (λ t. page' ++ t) (sym end) ∙ e) ∙ append_assoc page left rows ∙ is)

-- no line that was begun is left
pub no_line : (rest : Option Rest) → is_some rest ≡ false → line_left rest ≡ []
no_line None none = refl
no_line (Some rest) none = cc
