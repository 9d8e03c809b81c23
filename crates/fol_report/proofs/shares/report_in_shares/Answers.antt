use Rattle.std.proofs.Common.{◌≡◌, rules, All, IfOk, IsOk, flat_map, ap, ◌∙◌}
use Rattle.std.proofs.Crossing.{crosses, send}
use Rattle.std.proofs.lemmas.Result.{IfOk-at_ok}
use denote.Param.Send.{sendable}
use Rattle.fol_model.proofs.Crossing.{PackedEntry-sync}
use Rattle.fol_model.specs.LineWords.{lines_of}
use Rattle.fol_model.specs.ReportWords.{entry_words}
use Rattle.fol_report.specs.Shares.{foot_text, text_of}
use Rattle.fol_report.proofs.InShares.{joined_whole}
use Rattle.fol_report.proofs.shares.report_in_shares.Goals as goal

pub join-lines-requires-send-F : goal.join-lines-requires-send-F
join-lines-requires-send-F g c κs within = search (sendable, crosses, send, PackedEntry-sync) depth 20

pub returns : goal.returns
returns g c =
    let closing = c.args.closing.now in
    let rows = c.as_slice-rows.result.now in
    let first : IfOk c.join-lines.result.0 (λ made. All IsOk made.items → flat_map text_of made.items ≡ lines_of entry_words rows) = search (rules, c.join-lines.ensures.first) in
    let second : IfOk c.join-lines.result.1 (λ text. text.items ≡ foot_text closing) = search (rules, c.join-lines.ensures.second) in
    let lines = IfOk-at_ok (λ made. All IsOk made.items → flat_map text_of made.items ≡ lines_of entry_words rows) c.in_ok-lines.was first in
    let foot = IfOk-at_ok (λ text. text.items ≡ foot_text closing) c.in_ok-foot.was second in
    joined_whole closing _ _ _ _ c.in_ok-shares.ensures.text (ap (λ v. v.items) c.into_bytes.ensures.value ∙ c.in_ok-head.ensures) (lines c.in_ok-shares.ensures.made ∙ ap (lines_of entry_words) c.as_slice-rows.ensures) foot
