use Rattle.std.proofs.Common.{◌≡◌, ◌≢◌, ◌⊎◌, inl, inr, length, get_or, sym, ◌∙◌}
use Rattle.fol_script.proofs.Digits.{spelled_word, stands_alone}
use Rattle.fol_script.proofs.numbers.is_spelled.Goals as goal
use Rattle.fol_script.proofs.numbers.is_spelled.Goals.{then-first-ne48, else-first-ne48}

pub returns-then-is_empty : goal.returns-then-is_empty
returns-then-is_empty c =
    let why : (get_or c.args.word.now 0 0 ≢ 48) ⊎ (length c.args.word.now ≡ 1) = elim c.if-first-ne48.branch [
      | then-first-ne48 w ↦ inl w.if-first-ne48.true
      | else-first-ne48 w ↦ inr (stands_alone c.args.word.now c.in-len1-up.len_at_least (sym w.is_empty.ensures ∙ sym w.value-is ∙ c.if-is_empty.true))
    ] in
    spelled_word c.args.word.now c.args.digits c.in-len1-up.len_at_least why c.requires
