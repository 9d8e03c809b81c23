use Rattle.fol_chunks.proofs.Tallies.{counted_kept, counted_take, one_there}
use Rattle.fol_chunks.proofs.counted.Counted.take.Goals as goal

pub lower-requires : goal.lower-requires
lower-requires c =
    rw c.key_around.ensures
    (one_there c.self.inside.entities.items c.take.new.entities.items c.self.inside.tally.entries c.self.inside.tally.entries c.in-Some.entity c.self.invariant c.take.ensures.order c.in-Some.ensures.sums)

pub invariant_of-self : goal.invariant_of-self
invariant_of-self c =
    counted_take c.self.inside.entities.items c.take.new.entities.items c.self.inside.tally.entries c.lower.new.tally.entries c.in-Some.entity c.self.invariant c.take.ensures.order c.in-Some.ensures.sums
    (rw c.key_around.ensures at c.lower.ensures.numbers)

pub invariant_of-self-in-None : goal.invariant_of-self-in-None
invariant_of-self-in-None c = counted_kept c.self.inside.entities.items c.take.new.entities.items c.self.inside.tally.entries c.self.invariant c.take.ensures.order c.in-None.ensures.sums
