use Rattle.fol_events.proofs.Cuts.{none_cut, some_cut}
use Rattle.fol_events.proofs.lines.cut_line.Goals as goal

pub returns-in-None-clause-none : goal.returns-in-None-clause-none
returns-in-None-clause-none c = none_cut c.args.bytes.now c.in-None.ensures

pub returns-in-Some-clause-found : goal.returns-in-Some-clause-found
returns-in-Some-clause-found c = some_cut c.args.bytes.now c.in-Some.n c.in-Some.ensures
