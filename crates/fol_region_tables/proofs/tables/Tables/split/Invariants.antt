use Rattle.fol_region_tables.proofs.SplitSteps.{IsSplitting}
use Rattle.fol_region_tables.proofs.tables.Tables.split.Given as goal

abbrev pub invariant-loop-i : goal.invariant-loop-i
invariant-loop-i l = IsSplitting l.fn.self (record { owned = l.self-inside.owners.pages; free = l.self-inside.owners.free; slots = l.self-inside.slots; rows = l.self-inside.rows; ahead = l.self-inside.ahead; behind = l.self-inside.behind; next = l.self-inside.next }) l.id l.parts l.i
