use Rattle.std.proofs.Common.{rules, refl, ◌∙◌, inl, inr}
use Rattle.std.specs.List.Sorted.{IsStrictlySortedBy}
use Rattle.fol_model.specs.Geometry.{is_block, is_chunk, chunk_of}
use Rattle.fol_model.specs.Limits.{is_entity, is_entity_id}
use Rattle.fol_shared_tests.proofs.world.opening.Goals as goal

pub invariant_of-result : goal.invariant_of-result
unfolding IsStrictlySortedBy is_block is_chunk chunk_of is_entity is_entity_id
invariant_of-result c =
    let entities = c.of.ensures ∙ c.in_ok-entities.ensures.items in
    record {
      version_low = search rules;
      version_high = search rules;
      grid = search rules;
      each_block = search rules;
      each_entity = elim c.requires [ inl e ↦ rw (entities, e) refl | inr e ↦ rw (entities, e) refl ];
      block_order = search rules;
      entity_order = rw entities (tt, tt);
    }
