use Rattle.std.proofs.Common.{arith}
use Rattle.std.proofs.lemmas.List.Sums.{count_by-le-length}
use Rattle.fol_chunks.specs.Tallies.{stands_in}
use Rattle.fol_chunks.proofs.Tallies.{counted_put}
use Rattle.fol_chunks.proofs.counted.Counted.put.Goals as goal

pub raise-requires-clause-few : goal.raise-requires-clause-few
raise-requires-clause-few c =
    omega (arith, c.self.invariant.numbers c.key_around.result, count_by-le-length (stands_in c.key_around.result) c.self.inside.entities.items, c.self.inside.entities.ok)

pub invariant_of-self : goal.invariant_of-self
invariant_of-self c =
    counted_put c.self.inside.entities.items c.put.new.entities.items c.self.inside.tally.entries c.raise.new.tally.entries c.args.entity c.self.invariant c.put.ensures.order c.put.ensures.sums
    (rw c.key_around.ensures at c.raise.ensures.numbers)
