use Rattle.std.proofs.Common.{◌≡◌, List, ℕ}
use Rattle.fol_top.specs.Report.{IsReport, text_in}
use Rattle.fol_top.proofs.RunEndings.{ends_more, is_report}
use Rattle.fol_top.proofs.program.run_texts.Goals as goal

pub returns-in-Ok : goal.returns-in-Ok
returns-in-Ok g c =
    let closing = c.in-Ok.closing in
    ends_more (λ (bytes : List ℕ). bytes ≡ text_in c.args.form closing) (IsReport c.args.form c.args.texts.opening c.args.texts.script c.args.workers)
    (is_report c.args.form c.args.texts.opening c.args.texts.script c.args.workers closing c.requires.grid c.in-Ok.ensures.legal c.in-Ok.ensures.outputs)
    (g.K.Sink.received c.args.out.now) (g.K.Sink.received c.write_output-ending.new.out) (g.K.Sink.faults c.args.out.now) (g.K.Sink.faults c.write_output-ending.new.out) (g.K.Sink.puts c.args.out.now) (g.K.Sink.puts c.write_output-ending.new.out)
    c.write_output-ending.result c.write_output-ending.ensures
