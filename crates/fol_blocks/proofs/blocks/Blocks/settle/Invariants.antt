use Rattle.std.proofs.Common.{◌≡◌, ◌≤◌, vec_len}
use Rattle.fol_blocks.specs.Kept.{blocks_of, room_of, IsKept}
use Rattle.fol_blocks.specs.Weights.{SameBlocks}
use Rattle.fol_blocks.proofs.blocks.Blocks.settle.Given as goal

abbrev pub invariant-loop-self : goal.invariant-loop-self
invariant-loop-self l = record {
  kept : IsKept l.self;
  same : SameBlocks (blocks_of l.initial.self) (blocks_of l.self);
  room : room_of l.initial.self ≤ room_of l.self;
  len : l.self.len ≡ l.initial.self.len;
}

abbrev pub decreases-loop-self : goal.decreases-loop-self
decreases-loop-self l = vec_len l.self.fresh
