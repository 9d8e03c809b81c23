use Rattle.std.specs.Option.{unwrap_or}
use Rattle.std.proofs.Common.{ap}
use Rattle.fol_chunks.proofs.Tallies.{counted_same}
use Rattle.fol_chunks.proofs.counted.Counted.reserve.Goals as goal

pub invariant_of-self : goal.invariant_of-self
invariant_of-self c = rw c.reserve.ensures.items c.self.invariant

pub invariant_of-self-2 : goal.invariant_of-self-2
invariant_of-self-2 c = rw c.reserve.ensures.items (counted_same c.self.inside.entities.items c.self.inside.tally.entries c.reserve-2.new.self.entries c.self.invariant (λ q. ap (λ o. unwrap_or o 0) (c.reserve-2.ensures.entries.2 q)))
