use Rattle.std.proofs.Common.{◌++◌, List, ◌∙◌, ap}
use Rattle.std.proofs.lemmas.List.{flat_map_more}
use Rattle.std.proofs.lemmas.List.Elements.{All-push}
use Rattle.fol_model.specs.declared.openings.BlockAt.{BlockAt}
use Rattle.fol_model.specs.declared.entities.Entity.{Entity}
use Rattle.fol_model.specs.declared.closings.TaskRow.{TaskRow}
use Rattle.fol_store.specs.Lists.{blocks_of, entities_of, tasks_of, IsListed}
use Rattle.fol_store.proofs.rows.add_spots.Goals as goal

pub loop-spot-preserved : goal.loop-spot-preserved
loop-spot-preserved c = record {
  blocks = c.in_ok-add_body.ensures.blocks ∙ ap (λ (l : List BlockAt). l ++ blocks_of c.in-Some.spot) c.loop-spot.invariant.blocks ∙ flat_map_more blocks_of c.args.rows.now.blocks.items c.loop-spot.yielded c.in-Some.spot;
  entities = c.in_ok-add_body.ensures.entities ∙ ap (λ (l : List Entity). l ++ entities_of c.in-Some.spot) c.loop-spot.invariant.entities ∙ flat_map_more entities_of c.args.rows.now.entities.items c.loop-spot.yielded c.in-Some.spot;
  tasks = c.in_ok-add_body.ensures.tasks ∙ ap (λ (l : List TaskRow). l ++ tasks_of c.in-Some.spot) c.loop-spot.invariant.tasks ∙ flat_map_more tasks_of c.args.rows.now.tasks.items c.loop-spot.yielded c.in-Some.spot;
  listed = All-push IsListed c.loop-spot.yielded c.in-Some.spot c.loop-spot.invariant.listed c.in_ok-add_body.ensures.listed;
}
