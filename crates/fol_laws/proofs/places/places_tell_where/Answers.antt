use Rattle.fol_laws.proofs.PlaceLaws.{places_tell_where}
use Rattle.fol_laws.proofs.places.places_tell_where.Goals as goal

pub returns : goal.returns
returns c = places_tell_where
