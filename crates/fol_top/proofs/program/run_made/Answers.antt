use Rattle.fol_top.specs.Report.{IsReport, IsSummary}
use Rattle.fol_top.specs.declared.form.Form.TheVariants.{Summary}
use Rattle.fol_top.proofs.RunEndings.{ends_more, is_summary}
use Rattle.fol_top.proofs.program.run_made.Goals as goal

pub returns-in-Ok : goal.returns-in-Ok
returns-in-Ok g c =
    let texts = c.in-Ok.texts in
    ends_more (IsReport (Summary c.args.clusters) texts.opening texts.script 4) (IsSummary c.args.clusters)
    (is_summary c.args.clusters texts.opening texts.script c.in-Ok.ensures.world c.in-Ok.ensures.script)
    (g.K.Sink.received c.args.out.now) (g.K.Sink.received c.run_texts.new.out) (g.K.Sink.faults c.args.out.now) (g.K.Sink.faults c.run_texts.new.out) (g.K.Sink.puts c.args.out.now) (g.K.Sink.puts c.run_texts.new.out)
    c.run_texts.result c.run_texts.ensures
