use Rattle.std.proofs.Common.{◌≡◌, ◌+◌, ◌≤◌, ◌++◌, length}
use Rattle.std.specs.Prelude.{filter, nat_eq, nat_lt}
use Rattle.std.specs.Vec.{vec_capacity}
use Rattle.fol_sections.specs.Pages.{near_at}
use Rattle.fol_sections.proofs.stretches.split_list.Given as goal

abbrev pub invariant-loop-rest : goal.invariant-loop-rest
invariant-loop-rest l = record {
  living : l.living.items ++ filter (λ s. nat_lt 0 (near_at l.pages.entries s)) l.rest ≡ l.initial.living.items ++ filter (λ s. nat_lt 0 (near_at l.pages.entries s)) l.list;
  dead : l.dead.items ++ filter (λ s. nat_eq (near_at l.pages.entries s) 0) l.rest ≡ l.initial.dead.items ++ filter (λ s. nat_eq (near_at l.pages.entries s) 0) l.list;
  living_fits : length l.living.items + length l.rest ≤ vec_capacity l.living;
  dead_fits : length l.dead.items + length l.rest ≤ vec_capacity l.dead;
  living_room : vec_capacity l.living ≡ vec_capacity l.initial.living;
  dead_room : vec_capacity l.dead ≡ vec_capacity l.initial.dead;
}

abbrev pub decreases-loop-rest : goal.decreases-loop-rest
decreases-loop-rest l = length l.rest
