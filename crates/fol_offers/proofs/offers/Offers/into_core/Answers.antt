use Rattle.std.proofs.Common.{ap, sym}
use Rattle.fol_offers.specs.Shown.{Shown, every}
use Rattle.fol_offers.proofs.CalledBack.{back_given}
use Rattle.fol_offers.proofs.offers.Offers.into_core.Goals as goal

pub returns-clause-back : goal.returns-clause-back
returns-clause-back c = back_given c.args.self c.recall.new.self c.args.by every c.offers.inside.core (ap (λ (v : Shown). v.core) (sym c.offers.view_is)) c.recall.ensures.back

pub returns-clause-grid : goal.returns-clause-grid
returns-clause-grid c = c.offers.invariant.grid

pub returns-clause-turns : goal.returns-clause-turns
returns-clause-turns c = rw (← c.recall.ensures.back.workers, ← ap (λ (v : Shown). v.workers) c.offers.view_is) c.offers.invariant.in_turn
