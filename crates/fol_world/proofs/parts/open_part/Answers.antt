use Rattle.std.proofs.Common.{◌∙◌, ap, false}
use Rattle.fol_model.specs.ActionStep.{at_id}
use Rattle.fol_laws.proofs.FunctionsChanged.{at_here}
use Rattle.fol_store.specs.Bag.{Bag, new_bag}
use Rattle.fol_store.specs.Stock.{bag_of}
use Rattle.fol_world.proofs.Loosened.{twice}
use Rattle.fol_world.proofs.parts.open_part.Goals as goal

pub returns-clause-bags : goal.returns-clause-bags
returns-clause-bags c =
    let f = bag_of c.args.store.now in
    let b = new_bag c.args.tick c.args.owed in
    c.unsettle.ensures.bags ∙ rw c.open.ensures.bags (twice f c.args.id b (record (at_id f c.args.id b c.args.id) { listed = false })
    ∙ ap (λ (x : Bag). at_id f c.args.id (record x { listed = false })) (at_here f c.args.id b))
