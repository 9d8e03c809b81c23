use Rattle.fol_offers.proofs.EventsKept.{tied_closes}
use Rattle.fol_offers.proofs.offers.Offers.close_phase.Goals as goal

pub invariant_of-self : goal.invariant_of-self
invariant_of-self c = tied_closes c.self.inside.core c.close_phase.new.self c.self.inside.keeper c.self.inside.places c.args.by c.self.invariant c.close_phase.result c.close_phase.ensures.recorded c.close_phase.ensures.refused
