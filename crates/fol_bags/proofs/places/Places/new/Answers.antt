use Rattle.std.proofs.Common.{refl}
use Rattle.fol_bags.specs.Places.{place_at, known_place}
use Rattle.fol_bags.proofs.places.Places.new.Goals as goal

pub returns : goal.returns
unfolding place_at known_place
returns c = λ q. rw c.new.ensures.empty refl
