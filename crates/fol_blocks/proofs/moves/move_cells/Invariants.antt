use Rattle.std.proofs.Common.{◌≡◌, ℕ, ◌+◌, ◌≤◌, take, vec_len}
use Rattle.std.specs.Prelude.{sum_by}
use Rattle.std.specs.List.{count_by}
use Rattle.std.specs.List.Sorted.{IsStrictlySortedBy}
use Rattle.std.specs.Vec.{vec_capacity}
use Rattle.fol_model.specs.declared.openings.BlockAt.{BlockAt}
use Rattle.fol_blocks.specs.Order.{by_place}
use Rattle.fol_blocks.specs.Cells.{AreCells, blocks_in}
use Rattle.fol_blocks.specs.Weights.{only, lies_in, lies_outside}
use Rattle.fol_blocks.proofs.moves.move_cells.Given as goal

abbrev pub invariant-loop-c : goal.invariant-loop-c
invariant-loop-c l = record {
  cells : AreCells l.cells.entries;
  into_cells : AreCells l.into.entries;
  order : IsStrictlySortedBy by_place l.fresh.items;
  left : (f : BlockAt → ℕ) → sum_by f (blocks_in l.cells.entries) ≡ sum_by (only (lies_outside (take l.c-index l.chunks)) f) (blocks_in l.initial.cells.entries);
  moved : (f : BlockAt → ℕ) → sum_by f (blocks_in l.into.entries) + sum_by f l.fresh.items ≡ sum_by f (blocks_in l.initial.into.entries) + sum_by f l.initial.fresh.items + sum_by (only (lies_in (take l.c-index l.chunks)) f) (blocks_in l.initial.cells.entries);
  count : l.moved ≡ count_by (lies_in (take l.c-index l.chunks)) (blocks_in l.initial.cells.entries);
  len : vec_len l.fresh ≤ vec_len l.initial.fresh + l.moved;
  capacity : vec_capacity l.initial.fresh ≤ vec_capacity l.fresh;
}
