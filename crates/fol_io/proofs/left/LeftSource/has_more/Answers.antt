use Rattle.std.proofs.Common.{flat_map}
use Rattle.fol_io.proofs.WholePieces.{some_row}
use Rattle.fol_io.proofs.left.LeftSource.has_more.Goals as goal

pub returns-clause-more : goal.returns-clause-more
returns-clause-more c more = some_row c.has_row.new.self.row.now (flat_map (λ part. part.items) c.has_row.new.self.parts.now) (c.has_row.ensures.more more)
