use Rattle.fol_offers.proofs.EventsKept.{tied_phases}
use Rattle.fol_offers.proofs.offers.Offers.open_phase.Goals as goal

pub invariant_of-self : goal.invariant_of-self
invariant_of-self c = tied_phases c.self.inside.core c.open_phase.new.self c.self.inside.keeper c.self.inside.places c.args.by c.self.invariant c.args.n c.open_phase.result c.open_phase.ensures.recorded c.open_phase.ensures.refused
