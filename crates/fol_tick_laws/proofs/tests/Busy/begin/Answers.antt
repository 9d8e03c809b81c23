use Rattle.fol_tick_laws.proofs.OpenTicks.{opens}
use Rattle.fol_tick_laws.proofs.tests.Busy.begin.Goals as goal

pub returns-clause-opened : goal.returns-clause-opened
returns-clause-opened g c =
    let begins = c.in-Got.ensures.begins in
    opens begins.0 c.ask.new.self c.args.worker c.args.worker c.args.region c.in-Got.tick begins.1
