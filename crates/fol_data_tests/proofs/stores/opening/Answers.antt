use Rattle.std.proofs.Common.{rules, refl, ◌∙◌}
use Rattle.std.specs.List.Sorted.{IsStrictlySortedBy}
use Rattle.fol_model.specs.Geometry.{is_block, is_chunk, chunk_of}
use Rattle.fol_model.specs.Limits.{is_entity, is_entity_id}
use Rattle.fol_model.specs.Universe.{block_cmp}
use Rattle.fol_data_tests.proofs.stores.opening.Goals as goal

pub invariant_of-result : goal.invariant_of-result
unfolding IsStrictlySortedBy block_cmp is_block is_chunk chunk_of is_entity is_entity_id
invariant_of-result c =
    let blocks = c.of.ensures ∙ c.in_ok-blocks.ensures.items in
    let entities = c.of-2.ensures ∙ c.in_ok-entities.ensures.items in
    record {
      version_low = search rules;
      version_high = search rules;
      grid = search rules;
      each_block = rw blocks refl;
      each_entity = rw entities refl;
      block_order = rw blocks ((refl, tt), (tt, tt));
      entity_order = rw entities ((refl, tt), (tt, tt));
    }
