use Rattle.std.proofs.Common.{arith}
use Rattle.fol_regions.specs.Table.{grid_state}
use Rattle.fol_world.proofs.RegionSizes.{few_sections, given_state, same_row, section_count}
use Rattle.fol_world.proofs.rows.region_row.Goals as goal

pub overflow_cast-result : goal.overflow_cast-result
overflow_cast-result c = omega (
  arith,
  few_sections (grid_state c.args.regions.now) c.args.id c.keeps_rules.ensures c.requires.has.above,
  section_count (grid_state c.args.regions.now) c.args.id c.sections.result.now c.sections.ensures,
)

pub returns : goal.returns
returns c = same_row c.args.id c.unwrap.result c.state.result _ _ _ _ _ _ _ _ _
    c.unwrap.ensures
    (given_state (grid_state c.args.regions.now) c.args.id c.state.result c.requires.has.above c.requires.has.below c.state.ensures)
    c.tick.ensures.value
    c.owed.ensures
    (section_count (grid_state c.args.regions.now) c.args.id c.sections.result.now c.sections.ensures)
    c.chunk_count.ensures.value
