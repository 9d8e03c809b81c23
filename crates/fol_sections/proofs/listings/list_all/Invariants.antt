use Rattle.std.proofs.Common.{◌≡◌, ◌++◌, length}
use Rattle.std.specs.Prelude.{flat_map}
use Rattle.std.specs.Vec.{vec_capacity}
use Rattle.fol_sections.specs.Kept.{held_chunks}
use Rattle.fol_sections.proofs.listings.list_all.Given as goal

abbrev pub invariant-loop-rest : goal.invariant-loop-rest
invariant-loop-rest l = record {
  listed : l.out.items ++ flat_map (held_chunks l.grid l.holds.entries) l.rest ≡ l.initial.out.items ++ flat_map (held_chunks l.grid l.holds.entries) l.list;
  capacity : vec_capacity l.out ≡ vec_capacity l.initial.out;
}

abbrev pub decreases-loop-rest : goal.decreases-loop-rest
decreases-loop-rest l = length l.rest
