use Rattle.std.proofs.Common.{◌≡◌, ◌++◌, map, take}
use Rattle.fol_world.specs.Closings.{owner_row}
use Rattle.fol_world.proofs.owners.add_sections.Given as goal

abbrev pub invariant-loop-s : goal.invariant-loop-s
invariant-loop-s l = l.rows.items ≡ l.initial.rows.items ++ map (owner_row l.id) (take l.s-index l.sections)
