use Rattle.std.proofs.Common.{◌∙◌}
use Rattle.std.proofs.lemmas.Result.{IfOk-weaker}
use Rattle.fol_world.proofs.EntityRows.{places_are, standing_are}
use Rattle.fol_world.proofs.rows.entity_rows.Goals as goal

pub returns-then-not-bring_any : goal.returns-then-not-bring_any
returns-then-not-bring_any c = IfOk-weaker c.standing_rows.result _ _
    (λ v e f are. e ∙ standing_are f c.args.entities.now c.args.tasks.now are c.requires.order (c.bring_any.ensures c.if-not-bring_any.true))
    c.standing_rows.ensures

pub returns : goal.returns
returns c = IfOk-weaker c.list_places.result _ _
    (λ v e f are. e ∙ places_are f c.args.entities.now c.args.tasks.now are c.new-places.result c.put_standing.new.places c.put_arrivals.new.places c.new-places.ensures.empty c.list_places.ensures.ordered c.in_ok-put_standing.ensures c.in_ok-put_arrivals.ensures)
    c.list_places.ensures.rows
