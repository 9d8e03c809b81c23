use Rattle.std.proofs.Common.{[]}
use Rattle.fol_tick.proofs.Stages.{runs_none}
use Rattle.fol_tick.proofs.run.run_due.Goals as goal

pub returns-then-tick-as_slice-clause-runs : goal.returns-then-tick-as_slice-clause-runs
returns-then-tick-as_slice-clause-runs g c =
    ([], g.met.H.Host.stays _, runs_none c.args.tick.now c.requires.unmoved c.requires.within)
