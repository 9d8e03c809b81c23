use Rattle.std.proofs.Common.{refl}
use Rattle.fol_chunks.proofs.chunks.Chunks.walkers.Goals as goal

pub returns-in-Some : goal.returns-in-Some
returns-in-Some c = rw (← c.self.view_is, c.in-Some.is, ← c.deref.ensures) c.walkers.ensures

pub returns-in-None : goal.returns-in-None
returns-in-None c = rw (← c.self.view_is, c.in-None.is) refl
