use Rattle.std.proofs.Common.{◌≡◌, ℕ, ◌+◌, ◌≤◌, take}
use Rattle.std.specs.Prelude.{sum_by}
use Rattle.std.specs.List.Sorted.{IsStrictlySortedBy}
use Rattle.std.specs.Vec.{vec_capacity}
use Rattle.fol_model.specs.declared.openings.BlockAt.{BlockAt}
use Rattle.fol_blocks.specs.Pages.{blocks_on}
use Rattle.fol_blocks.specs.Order.{by_place}
use Rattle.fol_blocks.proofs.pages.join_to.Given as goal

abbrev pub invariant-loop-page : goal.invariant-loop-page
invariant-loop-page l = record {
  order : IsStrictlySortedBy by_place l.list.items;
  joined : (f : BlockAt → ℕ) → sum_by f l.list.items ≡ sum_by f l.initial.list.items + sum_by f (blocks_on (take l.page-index l.pages));
  capacity : vec_capacity l.initial.list ≤ vec_capacity l.list;
}
