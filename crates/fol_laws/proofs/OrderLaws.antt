-- The fixed lists over which the model counts.
use Rattle.fol_laws.specs.Orders.{SectionsAreListed, ChunksAreListed, BlocksAreListed, NumbersAreListed}
use Rattle.fol_laws.proofs.SectionOrder.{sections_listed}
use Rattle.fol_laws.proofs.ChunkOrder.{chunks_listed}
use Rattle.fol_laws.proofs.BlockOrder.{blocks_listed}
use Rattle.fol_laws.proofs.NumberOrder.{numbers_listed}

pub sections_are_listed : SectionsAreListed
sections_are_listed = sections_listed

pub chunks_are_listed : ChunksAreListed
chunks_are_listed = chunks_listed

pub blocks_are_listed : BlocksAreListed
blocks_are_listed = blocks_listed

pub numbers_are_listed : NumbersAreListed
numbers_are_listed = numbers_listed
