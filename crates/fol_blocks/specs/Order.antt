-- The order of blocks.
use Rattle.std.specs.declared.cmp.Ordering.{Ordering}
use Rattle.fol_model.specs.declared.openings.BlockAt.{BlockAt}
use Rattle.fol_model.specs.Universe.{block_cmp}

abbrev pub by_place : BlockAt → BlockAt → Ordering
by_place a b = block_cmp a.at b.at
