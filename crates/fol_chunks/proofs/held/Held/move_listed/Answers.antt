use Rattle.std.proofs.Common.{arith}
use Rattle.fol_blocks.specs.Kept.{blocks_of}
use Rattle.fol_blocks.specs.Weights.{lies_in}
use Rattle.fol_chunks.proofs.Flats.{flat_is}
use Rattle.fol_chunks.proofs.Parts.{numbers_joined, numbers_left, ones_apart}
use Rattle.fol_blocks.proofs.Weighing.{count_is, count_split, length_sum}
use Rattle.fol_chunks.proofs.held.Held.move_listed.Goals as goal

pub move_listed-requires-clause-apart : goal.move_listed-requires-clause-apart
move_listed-requires-clause-apart c =
    let apart = rw (← c.self.view_is, ← c.into.view_is) at c.requires.apart in
    ones_apart c.args.chunks.now (blocks_of c.into.inside.blocks) (blocks_of c.self.inside.blocks) c.into.invariant.laid.once c.self.invariant.laid.once apart.blocks c.into.invariant.laid.full c.self.invariant.laid.full

pub returns-clause-stayed : goal.returns-clause-stayed
returns-clause-stayed c =
    rw (← c.self.view_is)
    (flat_is _ _ (numbers_left c.args.chunks.now (blocks_of c.self.inside.blocks) (blocks_of c.move_listed.new.self) c.self.invariant.laid.once c.move_listed.ensures.kept.laid.once c.move_listed.ensures.left)
    c.move_listed-2.ensures.left)

pub returns-clause-moved : goal.returns-clause-moved
returns-clause-moved c =
    let apart = rw (← c.self.view_is, ← c.into.view_is) at c.requires.apart in
    rw (← c.self.view_is, ← c.into.view_is)
    (flat_is _ _
    (numbers_joined c.args.chunks.now (blocks_of c.into.inside.blocks) (blocks_of c.self.inside.blocks) c.into.invariant.laid.once c.self.invariant.laid.once apart.blocks (blocks_of c.move_listed.new.into) c.move_listed.ensures.into_kept.laid.once c.move_listed.ensures.moved)
    c.move_listed-2.ensures.moved)

pub returns-clause-size : goal.returns-clause-size
returns-clause-size c =
    rw (← c.self.view_is)
    (omega (
      arith,
      c.move_listed-2.ensures.len,
      c.move_listed.ensures.left (λ x. 1),
      length_sum (blocks_of c.move_listed.new.self),
      count_split (lies_in c.args.chunks.now) (blocks_of c.self.inside.blocks),
    ))

pub returns-clause-into_size : goal.returns-clause-into_size
returns-clause-into_size c =
    rw (← c.self.view_is, ← c.into.view_is)
    (omega (
      arith,
      c.move_listed-2.ensures.into_len,
      c.move_listed.ensures.moved (λ x. 1),
      length_sum (blocks_of c.move_listed.new.into),
      length_sum (blocks_of c.into.inside.blocks),
      count_is (lies_in c.args.chunks.now) (blocks_of c.self.inside.blocks),
    ))
