use Rattle.std.proofs.Common.{◌≡◌, ◌+◌, ◌≤◌, ◌++◌, take, length}
use Rattle.std.specs.Prelude.{vec_len}
use Rattle.std.specs.Vec.{vec_capacity}
use Rattle.fol_world.proofs.ends.add_all.Given as goal

abbrev pub invariant-loop-id : goal.invariant-loop-id
invariant-loop-id l = (l.agenda.items ≡ l.initial.agenda.items ++ take l.id-index l.ids) × (vec_len l.agenda + (length l.ids) ≤ vec_capacity l.agenda + l.id-index)
