use Rattle.fol_laws.proofs.LateLaws.{late_begin_is_the_same}
use Rattle.fol_laws.proofs.late.late_begin_is_the_same.Goals as goal

pub returns : goal.returns
returns c = late_begin_is_the_same
