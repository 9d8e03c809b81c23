use Rattle.std.proofs.Common.{◌≡◌, ◌++◌, take}
use Rattle.std.specs.List.{filter}
use Rattle.std.specs.Vec.{vec_capacity}
use Rattle.fol_keyed.specs.Members.{is_listed}
use Rattle.fol_keyed.proofs.rows.copy_listed.Given as goal

abbrev pub invariant-loop-row : goal.invariant-loop-row
invariant-loop-row g l = record {
  copied : l.into.items ≡ l.fn.into.items ++ filter (λ r. is_listed l.list.chunks.now (g.T.Row.place r)) (take l.row-index l.rows);
  capacity : vec_capacity l.into ≡ vec_capacity l.fn.into;
}
