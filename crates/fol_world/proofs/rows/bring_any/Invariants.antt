use Rattle.std.proofs.Common.{◌≡◌, [], take}
use Rattle.std.specs.Prelude.{flat_map}
use Rattle.fol_world.specs.Closings.{arrival_entries}
use Rattle.fol_world.proofs.rows.bring_any.Given as goal

abbrev pub invariant-loop-row : goal.invariant-loop-row
invariant-loop-row l = flat_map arrival_entries (take l.row-index l.tasks) ≡ []
