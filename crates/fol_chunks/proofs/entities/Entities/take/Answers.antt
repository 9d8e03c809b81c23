use Rattle.fol_chunks.specs.Contents.{entity_of}
use Rattle.fol_chunks.proofs.EitherList.{found_first, found_second, taken_first, taken_first_parted, taken_second, taken_second_parted}
use Rattle.fol_chunks.proofs.entities.Entities.take.Goals as goal

pub invariant_of-self : goal.invariant_of-self
invariant_of-self c =
    taken_first_parted c.self.inside.walking.members c.self.inside.still.members c.self.invariant c.take.new.self.members c.args.id c.in-Some.entity c.in-Some.ensures.entity c.take.ensures.left c.take.ensures.order

pub invariant_of-self-in-None : goal.invariant_of-self-in-None
invariant_of-self-in-None c =
    taken_second_parted c.self.inside.walking.members c.self.inside.still.members c.self.invariant c.take.new.self.members c.take-in-None.new.self.members c.args.id c.take.ensures.left c.take-in-None.ensures.left c.take.ensures.order c.take-in-None.ensures.order

pub returns-in-Some-clause-entity : goal.returns-in-Some-clause-entity
returns-in-Some-clause-entity c = rw (← c.self.view_is) (found_first (entity_of c.args.id) c.self.inside.walking.members c.self.inside.still.members c.args.id c.in-Some.entity c.in-Some.ensures.entity)

pub returns-in-Some-clause-left : goal.returns-in-Some-clause-left
returns-in-Some-clause-left c =
    rw (← c.self.view_is)
    (taken_first c.self.inside.walking.members c.self.inside.still.members c.self.invariant c.take.new.self.members c.args.id c.in-Some.entity c.in-Some.ensures.entity c.take.ensures.left)

pub returns-in-None-clause-entity : goal.returns-in-None-clause-entity
returns-in-None-clause-entity c =
    rw (← c.self.view_is)
    (found_second (entity_of c.args.id) c.self.inside.walking.members c.self.inside.still.members c.args.id c.take-in-None.result c.in-None.ensures.entity c.take-in-None.ensures.entity)

pub returns-in-None-clause-left : goal.returns-in-None-clause-left
returns-in-None-clause-left c =
    rw (← c.self.view_is)
    (taken_second c.self.inside.walking.members c.self.inside.still.members c.self.invariant c.take.new.self.members c.take-in-None.new.self.members c.args.id c.take.ensures.left c.take-in-None.ensures.left)
