use Rattle.fol_chunks.proofs.EitherList.{none_parted}
use Rattle.fol_chunks.proofs.entities.Entities.new.Goals as goal

pub invariant_of-result : goal.invariant_of-result
invariant_of-result c = rw (c.new.ensures, c.new-2.ensures) none_parted
