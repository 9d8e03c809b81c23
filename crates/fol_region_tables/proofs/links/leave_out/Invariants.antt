use Rattle.std.proofs.Common.{◌≡◌, ◌≤◌, take}
use Rattle.std.specs.Vec.{vec_capacity}
use Rattle.fol_region_tables.specs.Links.{without_id}
use Rattle.fol_region_tables.proofs.links.leave_out.Given as goal

abbrev pub invariant-loop-k : goal.invariant-loop-k
invariant-loop-k l = record {
  left : l.out.items ≡ without_id l.id (take l.k-index l.ids);
  room : vec_capacity l.initial.out ≤ vec_capacity l.out;
}
