use Rattle.std.proofs.Common.{◌≡◌, length}
use Rattle.std.proofs.lemmas.List.{nil_from_length}
use Rattle.fol_chunks.proofs.EitherList.{none_walks}
use Rattle.fol_chunks.proofs.entities.Entities.is_still.Goals as goal

pub returns : goal.returns
returns c = λ still rec id.
    let none : length c.self.inside.walking.members ≡ 0 = c.is_empty.ensures.0 still in
    rw (← c.self.view_is) (none_walks c.self.inside.walking.members c.self.inside.still.members c.self.invariant rec (nil_from_length c.self.inside.walking.members none) id)
