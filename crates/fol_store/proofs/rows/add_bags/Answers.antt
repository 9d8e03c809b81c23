use Rattle.std.proofs.Common.{◌++◌, List, ◌∙◌, ap}
use Rattle.std.proofs.lemmas.List.{flat_map_more}
use Rattle.std.proofs.lemmas.List.Elements.{All-push}
use Rattle.fol_model.specs.declared.openings.BlockAt.{BlockAt}
use Rattle.fol_model.specs.declared.entities.Entity.{Entity}
use Rattle.fol_model.specs.declared.closings.TaskRow.{TaskRow}
use Rattle.fol_bags.specs.declared.slot.Slot.{Slot}
use Rattle.fol_store.specs.Lists.{blocks_of, entities_of, tasks_of, IsListed}
use Rattle.fol_store.proofs.rows.add_bags.Goals as goal

pub loop-bag-preserved : goal.loop-bag-preserved
loop-bag-preserved c =
    record {
      blocks = c.in_ok-add_bag.ensures.blocks ∙ ap (λ (l : List BlockAt). l ++ blocks_of c.in-Some.bag.body) c.loop-bag.invariant.blocks ∙ flat_map_more (λ (b : Slot). blocks_of b.body) c.args.rows.now.blocks.items c.loop-bag.yielded c.in-Some.bag;
      entities = c.in_ok-add_bag.ensures.entities ∙ ap (λ (l : List Entity). l ++ entities_of c.in-Some.bag.body) c.loop-bag.invariant.entities ∙ flat_map_more (λ (b : Slot). entities_of b.body) c.args.rows.now.entities.items c.loop-bag.yielded c.in-Some.bag;
      tasks = c.in_ok-add_bag.ensures.tasks ∙ ap (λ (l : List TaskRow). l ++ tasks_of c.in-Some.bag.body) c.loop-bag.invariant.tasks ∙ flat_map_more (λ (b : Slot). tasks_of b.body) c.args.rows.now.tasks.items c.loop-bag.yielded c.in-Some.bag;
      listed = All-push (λ (b : Slot). IsListed b.body) c.loop-bag.yielded c.in-Some.bag c.loop-bag.invariant.listed c.in_ok-add_bag.ensures.listed;
    }
