use Rattle.std.proofs.Common.{refl}
use Rattle.std.proofs.Math.Path.{fun_ext}
use Rattle.fol_chunks.proofs.Flats.{flat_is}
use Rattle.fol_chunks.proofs.held.Held.is_still.Goals as goal

pub returns : goal.returns
returns c = λ still rec. rw (← c.self.view_is) (flat_is _ _ refl (fun_ext (c.is_still.ensures still rec)))
