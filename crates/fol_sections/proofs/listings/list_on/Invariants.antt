use Rattle.std.proofs.Common.{◌≡◌, ◌++◌, take}
use Rattle.std.specs.Prelude.{flat_map}
use Rattle.std.specs.Vec.{vec_capacity}
use Rattle.fol_sections.specs.Kept.{held_chunks}
use Rattle.fol_sections.proofs.listings.list_on.Given as goal

abbrev pub invariant-loop-s : goal.invariant-loop-s
invariant-loop-s l = record {
  listed : l.out.items ≡ l.initial.out.items ++ flat_map (held_chunks l.grid l.holds.entries) (take l.s-index l.part);
  capacity : vec_capacity l.out ≡ vec_capacity l.initial.out;
}
