use Rattle.std.proofs.Common.{rules}
use Rattle.fol_offers.proofs.EventsKept.{tied_finishes}
use Rattle.fol_offers.proofs.offers.Offers.finish.Goals as goal

pub invariant_of-self : goal.invariant_of-self
invariant_of-self c = tied_finishes c.self.inside.core c.finish.new.self c.self.inside.keeper c.self.inside.places c.args.by c.self.invariant c.finish.result (search rules) c.finish.ensures.answer c.finish.ensures.recorded c.finish.ensures.refused
