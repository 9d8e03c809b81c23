use Rattle.std.proofs.Common.{map, take}
use Rattle.std.specs.Ordering.{nat_cmp}
use Rattle.fol_world.specs.Closings.{PutsAll, standing_entry}
use Rattle.fol_world.proofs.rows.put_standing.Given as goal

abbrev pub invariant-loop-e : goal.invariant-loop-e
invariant-loop-e l = PutsAll nat_cmp l.initial.places l.places (map standing_entry (take l.e-index l.entities))
