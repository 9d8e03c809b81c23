use Rattle.std.proofs.Common.{◌≡◌, ap, refl, None}
use Rattle.fol_model.specs.ActionStep.{Flat}
use Rattle.fol_model.specs.World.{standing_in}
use Rattle.fol_data_tests.proofs.chunks.with_walker.Goals as goal

pub put_entity-requires-clause-fresh : goal.put_entity-requires-clause-fresh
put_entity-requires-clause-fresh c =
    let nothing = rw c.new-chunks.ensures.nothing at c.in_ok-reserve.ensures.same in
    let none : standing_in c.reserve.new.self.entities c.walker.result.id ≡ None = ap (λ (f : Flat). f.standing c.walker.result.id) nothing in
    rw none refl
