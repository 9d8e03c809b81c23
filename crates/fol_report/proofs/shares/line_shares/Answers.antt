use Rattle.std.proofs.Common.{◌≡◌, ◌∙◌, sym, length, get_or, arith}
use Rattle.std.specs.Prelude.{Err, alloc_error, IfOk}
use Rattle.std.specs.Fork.{slice_chunk}
use denote.Param.Send.{sendable}
use Rattle.fol_model.proofs.Crossing.{PackedEntry-sync}
use Rattle.fol_model.specs.LineWords.{line, lines_of}
use Rattle.fol_model.specs.ReportWords.{entry_words}
use Rattle.fol_report.specs.Shares.{text_of}
use Rattle.fol_report.proofs.InShares.{made_text, texts_of_chunks}
use Rattle.fol_report.proofs.shares.line_shares.Goals as goal

pub map_chunks-requires-sync-T : goal.map_chunks-requires-sync-T
map_chunks-requires-sync-T g c κs within = search (sendable, PackedEntry-sync)

pub returns : goal.returns
returns g c all_ok =
    let len : length c.in_ok-made.made.items ≡ _ = sym c.in_ok-made.made.ok.0 ∙ c.in_ok-made.ensures.len in
    texts_of_chunks (λ e. line (entry_words e)) text_of c.share_size-size.result c.args.rows.now c.in_ok-made.made.items (Err alloc_error)
    (λ n l.
    let k = (c.in_ok-made.ensures.each n (Err alloc_error) l).1 in
    let is : IfOk (get_or c.in_ok-made.made.items n (Err alloc_error)) (λ t. t.items ≡ lines_of entry_words (slice_chunk c.args.rows.now c.share_size-size.result n)) = grind arith in
    made_text _ _ (all_ok n (Err alloc_error) l) is)
    c.share_size-size.ensures len
