use Rattle.std.proofs.Common.{◌≡◌, ◌++◌, map, take, drop}
use Rattle.fol_chunks.specs.Areas.{paid}
use Rattle.fol_chunks.proofs.owed.Owed.pay_all.Given as goal

abbrev pub invariant-loop-i : goal.invariant-loop-i
invariant-loop-i l = l.entities ≡ map (paid l.self) (take l.i l.fn.entities) ++ drop l.i l.fn.entities
