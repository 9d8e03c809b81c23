-- A Begin that is recorded later than it was made.
use Rattle.fol_laws.specs.LateBegin.{LateBeginIsTheSame}
use Rattle.fol_laws.proofs.LateBegins.{late_begin}

pub late_begin_is_the_same : LateBeginIsTheSame
late_begin_is_the_same = late_begin
