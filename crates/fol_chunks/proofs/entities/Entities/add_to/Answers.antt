use Rattle.fol_chunks.proofs.EitherList.{either_differ}
use Rattle.fol_chunks.proofs.entities.Entities.add_to.Goals as goal

pub returns-in_err-add_to-clause-differ : goal.returns-in_err-add_to-clause-differ
returns-in_err-add_to-clause-differ c = rw (← c.self.view_is) (either_differ c.self.inside.walking.members c.self.inside.still.members c.self.invariant)

pub returns-clause-differ : goal.returns-clause-differ
returns-clause-differ c = rw (← c.self.view_is) (either_differ c.self.inside.walking.members c.self.inside.still.members c.self.invariant)
