use Rattle.std.proofs.Common.{arith}
use mir.Syntax.{w32}
use Rattle.std.proofs.lemmas.Int.{to_z-of_z}
use Rattle.fol_map.proofs.Ordered.{cell_short}
use Rattle.fol_map.proofs.layouts.cell.Goals as goal

pub returns-clause-value : goal.returns-clause-value
returns-clause-value c = let same = rw (to_z-of_z w32 c.args.place c.ranges.place) at c.loop-rest.invariant.same in omega (arith, same, cell_short c.loop-rest.rest.now c.args.place c.in_default.len_below)
