use Rattle.fol_script.proofs.Cuts.{feed_at, no_feed}
use Rattle.fol_script.proofs.lines.line_len.Goals as goal

pub returns-in-Some-clause-place : goal.returns-in-Some-clause-place
returns-in-Some-clause-place c = feed_at c.args.text.now c.in-Some.n c.in-Some.ensures

pub returns-in-None-clause-place : goal.returns-in-None-clause-place
returns-in-None-clause-place c = no_feed c.args.text.now c.in-None.ensures
