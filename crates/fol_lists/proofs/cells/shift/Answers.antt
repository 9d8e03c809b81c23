use Rattle.std.proofs.Common.{arith}
use Rattle.fol_lists.proofs.Shifted.{shifted_is}
use Rattle.fol_lists.proofs.cells.shift.Goals as goal

pub returns : goal.returns
returns g c = rw (c.copy_from_slice.ensures.after, c.copy_within.ensures.after) (shifted_is c.args.cells.now c.args.xs.now c.args.start c.args.end c.args.by c.requires.rising (omega arith))
