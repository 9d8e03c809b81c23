use Rattle.fol_model.specs.declared.words.Keyword.TheVariants as keys
use Rattle.fol_script.proofs.WorldBefore.{block_limits, entity_limits, entity_key}
use Rattle.fol_script.proofs.ReadWorld.{with_key, grid_arm, block_arm, entity_arm}
use Rattle.fol_script.proofs.world_lines.take_row.Goals as goal

pub keep_block-requires-clause-within : goal.keep_block-requires-clause-within
keep_block-requires-clause-within c = (block_limits c.args.cells.now (with_key c.args.key keys.Block c.args.cells.now c.in-Block.is c.requires.row)).0

pub keep_entity-requires : goal.keep_entity-requires
keep_entity-requires c =
    let k = entity_key c.args.key c.requires.row.is_line_word c.in_default.not-World c.in_default.not-Grid c.in_default.not-Block in
    entity_limits c.args.cells.now (with_key c.args.key keys.Entity c.args.cells.now k c.requires.row)

pub returns-in-Grid : goal.returns-in-Grid
returns-in-Grid c = grid_arm c.args.key c.args.cells.now c.args.before.now c.grid_at-before.result c.in-Grid.is c.requires.order c.requires.row c.grid_at-before.ensures

pub returns-in_ok-twice-in-Block : goal.returns-in_ok-twice-in-Block
returns-in_ok-twice-in-Block c =
    let e = c.in_ok-twice-in-Block.ensures in
    block_arm c.args.key c.args.cells.now c.args.before.now c.keep_block.new.blocks c.in_ok-twice-in-Block.twice c.in-Block.is c.requires.order c.requires.row e

pub returns-in_ok-twice-in_default : goal.returns-in_ok-twice-in_default
returns-in_ok-twice-in_default c =
    let e = c.in_ok-twice-in_default.ensures in
    let k = entity_key c.args.key c.requires.row.is_line_word c.in_default.not-World c.in_default.not-Grid c.in_default.not-Block in
    entity_arm c.args.key c.args.cells.now c.args.before.now c.keep_entity.new.entities c.in_ok-twice-in_default.twice k c.requires.order c.requires.row e
