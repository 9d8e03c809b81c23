use Rattle.fol_laws.proofs.DueLaws.{none_names_it_before}
use Rattle.fol_laws.proofs.due.none_names_it_before.Goals as goal

pub returns : goal.returns
returns c = none_names_it_before
