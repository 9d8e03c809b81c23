use Rattle.std.proofs.Common.{◌≡◌, ◌++◌, map, take, drop}
use Rattle.fol_chunks.specs.Contents.{is_recorded}
use Rattle.fol_chunks.specs.Rows.{stepped}
use Rattle.fol_chunks.proofs.steps.step_on.Given as goal

abbrev pub invariant-loop-i : goal.invariant-loop-i
invariant-loop-i g l = l.entities ≡ map (stepped (is_recorded (g.L.Lookup.listed l.recorded))) (take l.i l.fn.entities) ++ drop l.i l.fn.entities
