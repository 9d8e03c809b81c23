use Rattle.fol_laws.proofs.PlaceLaws.{each_has_one_place}
use Rattle.fol_laws.proofs.places.each_has_one_place.Goals as goal

pub returns : goal.returns
returns c = each_has_one_place
