use Rattle.std.proofs.Common.{◌≡◌, map}
use Rattle.std.specs.Fn.{iterate}
use Rattle.fol_chunks.specs.Contents.{is_recorded}
use Rattle.fol_chunks.specs.Rows.{stepped}
use Rattle.fol_chunks.proofs.steps.walk_on.Given as goal

abbrev pub invariant-loop-tick : goal.invariant-loop-tick
invariant-loop-tick g l = l.entities ≡ iterate (map (stepped (is_recorded (g.L.Lookup.listed l.recorded)))) l._tick l.fn.entities
