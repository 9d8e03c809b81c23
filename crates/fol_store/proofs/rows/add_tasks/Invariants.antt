use Rattle.std.proofs.Common.{◌≡◌, ◌++◌, map}
use Rattle.fol_store.specs.TaskRows.{row_of}
use Rattle.fol_store.proofs.rows.add_tasks.Given as goal

abbrev pub invariant-loop-dated : goal.invariant-loop-dated
invariant-loop-dated l = l.rows.items ≡ l.fn.rows.items ++ map (row_of l.tick) l.yielded
