use Rattle.std.proofs.Common.{◌≡◌, ◌++◌, ◌∷◌, ◌≤◌, take}
use Rattle.std.specs.Prelude.{filter, nat_lt}
use Rattle.std.specs.Vec.{vec_capacity}
use Rattle.fol_region_tables.proofs.links.add_id.Given as goal

abbrev pub invariant-lower : goal.invariant-lower
invariant-lower l = record {
  added : l.out.items ≡ filter (λ k. nat_lt k l.id) (take l.k-index l.ids);
  room : vec_capacity l.fn.out ≤ vec_capacity l.out;
}

abbrev pub invariant-higher : goal.invariant-higher
invariant-higher l = record {
  added : l.out.items ≡ filter (λ k. nat_lt k l.id) l.ids ++ l.id ∷ filter (λ k. nat_lt l.id k) (take l.k-index l.ids);
  room : vec_capacity l.fn.out ≤ vec_capacity l.out;
}
