use Rattle.std.proofs.Common.{◌≡◌, ◌+◌, arith, length}
use Rattle.fol_model.specs.World.{block_in}
use Rattle.fol_blocks.specs.Kept.{blocks_of, one_if_filled}
use Rattle.fol_blocks.proofs.Wholes.{len_set, numbers_set, one_at_most}
use Rattle.fol_blocks.proofs.blocks.Blocks.set.Goals as goal

-- how many there are then
len : (c : goal.After-change) → length (blocks_of c.change.new.self) + one_if_filled (block_in (blocks_of c.args.self.now) c.args.block.at) ≡ length (blocks_of c.args.self.now) + one_if_filled c.args.block.id
len c = len_set (blocks_of c.args.self.now) (blocks_of c.change.new.self) c.args.block c.change.ensures.set c.requires.kept.laid.full c.requires.kept.laid.once

pub returns-clause-kept : goal.returns-clause-kept
returns-clause-kept c = record {
  laid = c.change.ensures.laid;
  len = omega (arith, c.change.ensures.counted, c.requires.kept.len);
  few = omega (arith, len c, c.change.ensures.counted, c.requires.kept.len, c.requires.kept.few, c.requires.room, one_at_most c.args.block.id);
}

pub returns-clause-number : goal.returns-clause-number
returns-clause-number c = numbers_set (blocks_of c.args.self.now) (blocks_of c.change.new.self) c.args.block c.change.ensures.set c.requires.kept.laid.once

pub returns-clause-len : goal.returns-clause-len
returns-clause-len c = omega (arith, len c, one_at_most c.args.block.id)

pub returns-clause-room : goal.returns-clause-room
returns-clause-room c =
    omega (
      arith,
      len c,
      c.change.ensures.counted,
      c.requires.kept.len,
      c.change.ensures.fresh_len,
      c.change.ensures.capacity,
      one_at_most c.args.block.id,
      c.args.self.now.fresh.ok,
      c.change.new.self.fresh.ok,
    )
