use Rattle.std.proofs.Common.{◌≡◌, ℕ, ◌+◌, ◌-◌, ◌≤◌, ◌++◌, arith, vec_len}
use Rattle.std.specs.Prelude.{sum_by}
use Rattle.std.specs.List.{count_by}
use Rattle.std.proofs.lemmas.List.Sums.{sum_by-append}
use Rattle.fol_model.specs.declared.openings.BlockAt.{BlockAt}
use Rattle.fol_blocks.specs.Cells.{blocks_in}
use Rattle.fol_blocks.specs.Kept.{blocks_of}
use Rattle.fol_blocks.specs.Weights.{only, lies_in, lies_outside, one_at}
use Rattle.fol_blocks.specs.declared.blocks.Blocks.{Blocks}
use Rattle.fol_blocks.proofs.Laid.{laid_more, laid_some}
use Rattle.fol_blocks.proofs.Weighing.{count_append, count_is, count_split, length_sum, only_less}
use Rattle.fol_blocks.proofs.blocks.Blocks.move_listed.Goals as goal

pub move_fresh-requires-clause-apart : goal.move_fresh-requires-clause-apart
move_fresh-requires-clause-apart c = λ at.
    omega (
      arith,
      c.requires.apart at,
      sum_by-append (one_at at) (blocks_in c.args.into.now.cells.entries) c.args.into.now.fresh.items,
      sum_by-append (only (lies_in c.args.chunks.now) (one_at at)) (blocks_in c.args.self.now.cells.entries) c.args.self.now.fresh.items,
    )

pub move_cells-requires-clause-apart : goal.move_cells-requires-clause-apart
move_cells-requires-clause-apart c = λ at.
    omega (
      arith,
      c.requires.apart at,
      c.move_fresh.ensures.moved (one_at at),
      sum_by-append (one_at at) (blocks_in c.args.into.now.cells.entries) c.args.into.now.fresh.items,
      sum_by-append (only (lies_in c.args.chunks.now) (one_at at)) (blocks_in c.args.self.now.cells.entries) c.args.self.now.fresh.items,
    )

pub move_cells-requires-clause-room : goal.move_cells-requires-clause-room
move_cells-requires-clause-room c =
    omega (
      arith,
      c.requires.room,
      c.move_fresh.ensures.moved (λ x. 1),
      c.move_fresh.ensures.into_capacity,
      length_sum c.move_fresh.new.into.items,
      length_sum c.args.into.now.fresh.items,
      count_is (lies_in c.args.chunks.now) c.args.self.now.fresh.items,
      count_append (lies_in c.args.chunks.now) (blocks_in c.args.self.now.cells.entries) c.args.self.now.fresh.items,
      c.args.into.now.fresh.ok,
      c.move_fresh.new.into.ok,
    )

left : (c : goal.After-into-1) (f : BlockAt → ℕ) → sum_by f (blocks_in c.move_cells.new.cells.entries ++ c.move_fresh.new.fresh.items) ≡ sum_by (only (lies_outside c.args.chunks.now) f) (blocks_of c.args.self.now)
left c f =
    omega (
      arith,
      c.move_fresh.ensures.left f,
      c.move_cells.ensures.left f,
      sum_by-append f (blocks_in c.move_cells.new.cells.entries) c.move_fresh.new.fresh.items,
      sum_by-append (only (lies_outside c.args.chunks.now) f) (blocks_in c.args.self.now.cells.entries) c.args.self.now.fresh.items,
    )

moved : (c : goal.After-into-1) (f : BlockAt → ℕ) → sum_by f (blocks_in c.move_cells.new.into.entries ++ c.move_cells.new.fresh.items) ≡ sum_by f (blocks_of c.args.into.now) + sum_by (only (lies_in c.args.chunks.now) f) (blocks_of c.args.self.now)
moved c f =
    omega (
      arith,
      c.move_fresh.ensures.moved f,
      c.move_cells.ensures.moved f,
      sum_by-append f (blocks_in c.move_cells.new.into.entries) c.move_cells.new.fresh.items,
      sum_by-append f (blocks_in c.args.into.now.cells.entries) c.args.into.now.fresh.items,
      sum_by-append (only (lies_in c.args.chunks.now) f) (blocks_in c.args.self.now.cells.entries) c.args.self.now.fresh.items,
    )

count : (c : goal.After-into-1) → c.move_fresh.result + c.move_cells.result ≡ count_by (lies_in c.args.chunks.now) (blocks_of c.args.self.now)
count c = omega (arith, c.move_fresh.ensures.count, c.move_cells.ensures.count, count_append (lies_in c.args.chunks.now) (blocks_in c.args.self.now.cells.entries) c.args.self.now.fresh.items)

pub returns-clause-left : goal.returns-clause-left
returns-clause-left c = left c

pub returns-clause-moved : goal.returns-clause-moved
returns-clause-moved c = moved c

pub returns-clause-kept : goal.returns-clause-kept
returns-clause-kept c =
    let after : Blocks = record { cells = c.move_cells.new.cells; fresh = c.move_fresh.new.fresh; len = c.args.self.now.len - (c.move_fresh.result + c.move_cells.result) } in
    record {
      laid = laid_some c.args.self.now after (lies_outside c.args.chunks.now) c.requires.kept.laid c.move_cells.ensures.cells c.move_fresh.ensures.order (left c);
      len = omega (arith, left c (λ x. 1), length_sum (blocks_of after), count c, count_split (lies_in c.args.chunks.now) (blocks_of c.args.self.now), c.requires.kept.len);
      few = omega (arith, c.requires.kept.few);
    }

pub returns-clause-into_kept : goal.returns-clause-into_kept
returns-clause-into_kept c =
    let after : Blocks = record { cells = c.move_cells.new.into; fresh = c.move_cells.new.fresh; len = c.args.into.now.len + (c.move_fresh.result + c.move_cells.result) } in
    record {
      laid = laid_more c.args.into.now c.args.self.now after (lies_in c.args.chunks.now) c.requires.into_kept.laid c.requires.kept.laid c.move_cells.ensures.into_cells c.move_cells.ensures.order c.requires.apart (moved c);
      len = omega (arith, moved c (λ x. 1), length_sum (blocks_of after), length_sum (blocks_of c.args.into.now), count c, count_is (lies_in c.args.chunks.now) (blocks_of c.args.self.now), c.requires.into_kept.len);
      few = omega (arith, c.requires.into_kept.few, c.requires.room, count c);
    }

pub returns-clause-room : goal.returns-clause-room
returns-clause-room c =
    let shorter : vec_len c.move_fresh.new.fresh ≤ vec_len c.args.self.now.fresh =
    omega (
      arith,
      c.move_fresh.ensures.left (λ x. 1),
      only_less (lies_outside c.args.chunks.now) (λ x. 1) c.args.self.now.fresh.items,
      length_sum c.move_fresh.new.fresh.items,
      length_sum c.args.self.now.fresh.items,
      c.args.self.now.fresh.ok,
      c.move_fresh.new.fresh.ok,
    ) in
    omega (arith, shorter, c.move_fresh.ensures.capacity)

pub returns-clause-into_room : goal.returns-clause-into_room
returns-clause-into_room c =
    let longer : vec_len c.move_cells.new.fresh ≤ vec_len c.args.into.now.fresh + (c.move_fresh.result + c.move_cells.result) =
    omega (
      arith,
      c.move_fresh.ensures.moved (λ x. 1),
      c.move_cells.ensures.len,
      c.move_fresh.ensures.count,
      length_sum c.move_fresh.new.into.items,
      length_sum c.args.into.now.fresh.items,
      count_is (lies_in c.args.chunks.now) c.args.self.now.fresh.items,
      c.args.into.now.fresh.ok,
      c.move_fresh.new.into.ok,
    ) in
    omega (arith, longer, count c, c.move_fresh.ensures.into_capacity, c.move_cells.ensures.capacity)
