use Rattle.std.proofs.Common.{◌≡◌, ◌+◌, ◌≤◌, ◌++◌, take, length}
use Rattle.std.specs.Prelude.{filter, nat_eq, nat_lt}
use Rattle.std.specs.Vec.{vec_capacity}
use Rattle.fol_sections.specs.Pages.{near_on}
use Rattle.fol_sections.proofs.stretches.split_on.Given as goal

abbrev pub invariant-loop-s : goal.invariant-loop-s
invariant-loop-s l = record {
  living : l.living.items ≡ l.initial.living.items ++ filter (λ s. nat_lt 0 (near_on l.page s)) (take l.s-index l.part);
  dead : l.dead.items ≡ l.initial.dead.items ++ filter (λ s. nat_eq (near_on l.page s) 0) (take l.s-index l.part);
  living_few : length l.living.items ≤ length l.initial.living.items + l.s-index;
  dead_few : length l.dead.items ≤ length l.initial.dead.items + l.s-index;
  living_room : vec_capacity l.living ≡ vec_capacity l.initial.living;
  dead_room : vec_capacity l.dead ≡ vec_capacity l.initial.dead;
}
