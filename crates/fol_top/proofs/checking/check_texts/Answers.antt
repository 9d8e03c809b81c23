use Rattle.fol_top.proofs.LegalReports.{legal_ends}
use Rattle.fol_top.proofs.checking.check_texts.Goals as goal

pub returns-in-Ok-Legal : goal.returns-in-Ok-Legal
returns-in-Ok-Legal g c =
    legal_ends c.args.texts.opening c.args.texts.script c.args.report.now c.requires.grid (rw c.in-Ok-Legal.field-0-is at c.in-Ok-Legal.ensures)
    (g.K.Sink.received c.args.out.now) (g.K.Sink.received c.put_output.new.out) (g.K.Sink.faults c.args.out.now) (g.K.Sink.faults c.put_output.new.out) (g.K.Sink.puts c.args.out.now) (g.K.Sink.puts c.put_output.new.out)
    c.put_output.result c.put_output.ensures
