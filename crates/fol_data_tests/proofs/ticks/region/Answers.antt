use Rattle.std.proofs.Common.{refl, sym, ◌∙◌, subst}
use Rattle.std.specs.Prelude.{IsNone}
use Rattle.fol_model.specs.ActionStep.{Flat}
use Rattle.fol_data_tests.proofs.ticks.region.Goals as goal

pub put_entity-requires-clause-fresh : goal.put_entity-requires-clause-fresh
put_entity-requires-clause-fresh c = let P : Flat → Type 0 = λ f. IsNone (f.standing c.walker.result.id) in subst P (sym (c.reserve.ensures.contents ∙ c.new-region.ensures.contents)) refl

pub returns : goal.returns
returns c =
    let P : Flat → Type 0 = λ f. IsNone (f.standing 2) in
    subst P (sym c.put_entity.ensures.entity) (rw c.walker.ensures (subst P (sym (c.reserve.ensures.contents ∙ c.new-region.ensures.contents)) refl))
