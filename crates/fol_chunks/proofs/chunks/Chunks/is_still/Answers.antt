use Rattle.std.proofs.Common.{refl}
use Rattle.fol_chunks.proofs.chunks.Chunks.is_still.Goals as goal

pub returns-in-Some : goal.returns-in-Some
returns-in-Some c = rw (← c.self.view_is, c.in-Some.is, ← c.deref.ensures) c.is_still.ensures

pub returns-in-None : goal.returns-in-None
returns-in-None c = λ _ rec. rw (← c.self.view_is, c.in-None.is) refl
