use Rattle.std.proofs.Common.{◌++◌, sym, ap, ◌∙◌, length}
use Rattle.fol_model.specs.LineWords.{lines_of}
use Rattle.fol_model.specs.ReportWords.{entry_words}
use Rattle.fol_report.specs.Spaced.{joined_lines}
use Rattle.fol_report.proofs.InShares.{joined_whole}
use Rattle.fol_report.proofs.Joined.{joined_lines_of}
use Rattle.fol_report.proofs.whole.Unwritten.of.Goals as goal

pub returns : goal.returns
returns c =
    let closing = c.args.closing.now in
    joined_whole closing _ c.push_head.new.page (joined_lines entry_words c.as_slice-rows.result.now) c.args.foot.now
    (ap (λ t. t ++ c.args.foot.now) c.behind.ensures.left)
    (c.push_head.ensures closing (sym (ap length c.as_slice-rows.ensures)))
    (joined_lines_of entry_words c.as_slice-rows.result.now ∙ ap (lines_of entry_words) c.as_slice-rows.ensures) c.requires
