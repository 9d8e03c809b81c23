use Rattle.std.proofs.Common.{◌≡◌, ◌∙◌, true, ap, refl, None, nat_eq}
use Rattle.std.proofs.lemmas.Bool.{eq-eqb}
use Rattle.fol_model.specs.ActionStep.{Flat}
use Rattle.fol_model.specs.World.{standing_in}
use Rattle.fol_data_tests.proofs.chunks.put.Goals as goal

pub put_entity-requires-clause-fresh : goal.put_entity-requires-clause-fresh
put_entity-requires-clause-fresh c =
    let same : nat_eq c.args.entity.id c.args.entity.id ≡ true = eq-eqb _ _ refl in
    let none : standing_in c.take_entity-there.new.self.entities c.args.entity.id ≡ None = ap (λ (f : Flat). f.standing c.args.entity.id) c.take_entity-there.ensures.left ∙ rw same refl in
    rw none refl
