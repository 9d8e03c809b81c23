use Rattle.std.proofs.lemmas.List.Elements.{recursion_from_All}
use Rattle.fol_world.proofs.rows.thing_rows.Goals as goal

pub returns : goal.returns
returns c = record {
  entities = c.in_ok-rows.rows.entities.items;
  rows = record {
    blocks_are = c.in_ok-rows.ensures.blocks;
    block_order = c.in_ok-rows.ensures.block_order;
    none_empty = recursion_from_All _ _ c.in_ok-rows.ensures.none_empty;
    entities_are = c.in_ok-rows.ensures.entities;
    entity_order = c.in_ok-rows.ensures.entity_order;
    tasks_are = c.in_ok-rows.ensures.tasks;
    task_order = c.in_ok-rows.ensures.task_order;
  };
  placed = rw (c.as_slice.ensures.value, c.as_slice-2.ensures.value) at c.in_ok-entity_list.ensures;
}
