use Rattle.std.proofs.Common.{◌++◌, refl, ap, ◌∙◌}
use Rattle.fol_model.specs.LineWords.{lines_of}
use Rattle.fol_model.specs.ReportWords.{entry_words}
use Rattle.fol_report.proofs.InShares.{joined_whole}
use Rattle.fol_report.proofs.Joined.{joined_lines_of}
use Rattle.fol_report.specs.Shares.{foot_text}
use Rattle.fol_report.proofs.text.report.Goals as goal

pub returns : goal.returns
returns c =
    let closing = c.args.closing.now in
    joined_whole closing _ _ _ _
    (ap (λ v. v.items) c.into_bytes.ensures.value ∙ c.in_ok-put_foot.ensures ∙ ap (λ t. t ++ foot_text closing) c.in_ok-put_entries.ensures)
    c.in_ok-out.ensures (joined_lines_of entry_words c.as_slice.result.now ∙ ap (lines_of entry_words) c.as_slice.ensures) refl
