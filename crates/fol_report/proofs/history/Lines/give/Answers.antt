use Rattle.std.proofs.Common.{◌≡◌, ◌+◌, ◌++◌, take, drop, length, sym, ap, ◌∙◌, arith}
use Rattle.std.proofs.lemmas.List.{drop-drop, length-drop}
use Rattle.fol_io.proofs.NextBytes.{taken_more}
use Rattle.fol_model.specs.ReportWords.{entry_words}
use Rattle.fol_report.specs.Histories.{line_left, lines_left}
use Rattle.fol_report.specs.Spaced.{joined_lines}
use Rattle.fol_report.proofs.history.Lines.give.Goals as goal

pub loop-len-preserved : goal.loop-len-preserved
loop-len-preserved c =
    let now = c.has_more.new.self in
    let row = drop now.given now.page in
    let rest = line_left now.rest ++ joined_lines entry_words now.rows.now in
    let before : take c.loop-len.len c.loop-len.bytes ++ (row ++ rest) ≡ lines_left c.args.self.now =
    ap (λ t. take c.loop-len.len c.loop-len.bytes ++ t) c.has_more.ensures.same ∙ c.loop-len.invariant.moved in
    let next = c.copy_from_slice.ensures.after ∙ c.split_at.ensures.front ∙ ap (take c.min-count.result) c.at_hand-row.ensures.text in
    record {
      within = omega (arith, c.min-count.ensures);
      moved = taken_more c.loop-len.len c.min-count.result c.loop-len.bytes c.copy_from_slice.new.self row (drop (now.given + c.min-count.result) now.page) rest (lines_left c.args.self.now) before (omega arith)
          (omega (arith, c.min-count.ensures, ap length c.at_hand-row.ensures.text)) next (sym (drop-drop c.min-count.result now.given now.page));
    }

pub overflow_add-self : goal.overflow_add-self
overflow_add-self c =
    let row = length-drop c.has_more.new.self.given c.has_more.new.self.page in
    omega (arith, row, c.min-count.ensures, ap length c.at_hand-row.ensures.text, c.at_hand-row.ensures.within, c.if-has_more.ensures.more)
