use Rattle.std.proofs.Common.{◌∙◌, ap}
use Rattle.fol_model.specs.ActionStep.{Flat, at_block}
use Rattle.fol_bags.specs.Things.{of_task}
use Rattle.fol_bags.proofs.spots.lay_block_in.Goals as goal

pub returns-clause-laid : goal.returns-clause-laid
returns-clause-laid c = record {
  contents = c.set.ensures.blocks ∙ ap (λ (f : Flat). let g : Flat = record f { blocks = at_block f.blocks c.args.at c.args.id } in g) c.room_for_thing.ensures.contents;
  tasks = λ n. c.room_for_thing.ensures.same.things (of_task n);
}
