use Rattle.std.proofs.Common.{take}
use Rattle.std.specs.Prelude.{flat_map}
use Rattle.std.specs.Ordering.{nat_cmp}
use Rattle.fol_world.specs.Closings.{PutsAll, arrival_entries}
use Rattle.fol_world.proofs.rows.put_arrivals.Given as goal

abbrev pub invariant-loop-row : goal.invariant-loop-row
invariant-loop-row l = PutsAll nat_cmp l.initial.places l.places (flat_map arrival_entries (take l.row-index l.tasks))
