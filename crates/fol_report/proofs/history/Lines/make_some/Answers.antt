use Rattle.std.proofs.Common.{Some}
use Rattle.fol_model.specs.ReportWords.{entry_words}
use Rattle.fol_report.specs.Histories.{line_left, lines_left}
use Rattle.fol_report.specs.Spaced.{joined_lines}
use Rattle.fol_report.proofs.NextLines.{gone_by, gone_on, no_line}
use Rattle.fol_report.proofs.history.Lines.make_some.Goals as goal

pub returns-then-is_none-clause-same : goal.returns-then-is_none-clause-same
returns-then-is_none-clause-same c =
    let begun = c.next_line.new.self in
    gone_by begun.given begun.page c.finish-self.new.page c.push_edges-self.new.page (line_left (Some c.in-Some.rest)) (line_left c.finish-self.result)
    (joined_lines entry_words begun.rows.now) (joined_lines entry_words c.push_edges-self.result.now) (lines_left c.args.self.now)
    c.next_line.ensures.given c.in-Some.ensures.left c.finish-self.ensures.text (no_line c.finish-self.result c.if-is_none.ensures) c.push_edges-self.ensures.text

pub returns-else-is_none-clause-same : goal.returns-else-is_none-clause-same
returns-else-is_none-clause-same c =
    let begun = c.next_line.new.self in
    gone_on begun.given begun.page c.finish-self.new.page (line_left (Some c.in-Some.rest)) (line_left c.finish-self.result)
    (joined_lines entry_words begun.rows.now) (lines_left c.args.self.now) c.next_line.ensures.given c.in-Some.ensures.left c.finish-self.ensures.text
