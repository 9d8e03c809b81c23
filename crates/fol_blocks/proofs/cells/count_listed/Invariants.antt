use Rattle.std.proofs.Common.{◌≡◌, take}
use Rattle.std.specs.List.{count_by}
use Rattle.fol_blocks.specs.Cells.{blocks_in}
use Rattle.fol_blocks.specs.Weights.{lies_in}
use Rattle.fol_blocks.proofs.cells.count_listed.Given as goal

abbrev pub invariant-loop-c : goal.invariant-loop-c
invariant-loop-c l = l.count ≡ count_by (lies_in (take l.c-index l.chunks)) (blocks_in l.cells.entries)
