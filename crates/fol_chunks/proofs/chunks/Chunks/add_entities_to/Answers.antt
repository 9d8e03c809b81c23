use Rattle.std.specs.List.{IsDistinct}
use Rattle.fol_chunks.proofs.chunks.Chunks.add_entities_to.Goals as goal

pub returns-in-None-clause-differ : goal.returns-in-None-clause-differ
unfolding IsDistinct
returns-in-None-clause-differ c = rw (← c.self.view_is, c.in-None.is) tt
