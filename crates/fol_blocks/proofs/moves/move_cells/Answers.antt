use Rattle.std.proofs.Common.{◌≡◌, ◌+◌, sym, ◌∙◌, ap, arith, take, pos}
use Rattle.std.specs.Prelude.{sum_by}
use Rattle.std.specs.List.{count_by}
use Rattle.std.proofs.lemmas.List.{take_all}
use Rattle.fol_model.specs.declared.places.ChunkPos.{ChunkPos}
use Rattle.fol_blocks.specs.Cells.{blocks_in, is_astray, lies_at}
use Rattle.fol_blocks.specs.Weights.{only, lies_in, lies_outside, one_at}
use Rattle.fol_blocks.proofs.ChunkLists.{count_more, in_all_count, in_le, in_more, in_none, key_of, out_more, out_none}
use Rattle.fol_blocks.proofs.Weighing.{count_is}
use Rattle.fol_blocks.proofs.moves.move_cells.Goals as goal

abbrev origin : ChunkPos
origin = record { x = pos 0; z = pos 0 }

pub loop-c-init : goal.loop-c-init
loop-c-init c = record {
  cells = c.requires.cells;
  into_cells = c.requires.into_cells;
  order = c.requires.order;
  left = λ f. sym (out_none f (blocks_in c.args.cells.now.entries));
  moved = λ f. omega (arith, in_none f (blocks_in c.args.cells.now.entries));
  count = sym (count_is (lies_in (take 0 c.args.chunks.now)) (blocks_in c.args.cells.now.entries) ∙ in_none (λ x. 1) (blocks_in c.args.cells.now.entries));
  len = omega arith;
  capacity = omega arith;
}

pub move_cell-moved-requires-clause-apart : goal.move_cell-moved-requires-clause-apart
move_cell-moved-requires-clause-apart c = λ at.
    rw c.key_of.ensures
    (omega (
      arith,
      c.requires.apart at,
      c.loop-c.invariant.moved (one_at at),
      c.loop-c.invariant.left (only (lies_at (key_of c.args.chunks.now c.loop-c.c-index origin)) (one_at at)),
      in_more c.args.chunks.now c.loop-c.c-index origin (omega arith) (one_at at) (blocks_in c.args.cells.now.entries),
      in_le (one_at at) c.args.chunks.now (c.loop-c.c-index + 1) (blocks_in c.args.cells.now.entries),
    ))

pub move_cell-moved-requires-clause-room : goal.move_cell-moved-requires-clause-room
move_cell-moved-requires-clause-room c =
    rw c.key_of.ensures
    (omega (arith, c.requires.room, count_more c.args.chunks.now c.loop-c.c-index origin (blocks_in c.args.cells.now.entries) (blocks_in c.loop-c.cells.entries) (omega arith) c.loop-c.invariant.left, in_all_count c.args.chunks.now (c.loop-c.c-index + 1) (blocks_in c.args.cells.now.entries)))

pub overflow_add-moved : goal.overflow_add-moved
overflow_add-moved c =
    let n = rw c.key_of.ensures at c.move_cell-moved.ensures.count in
    omega (arith, n, c.requires.room, count_more c.args.chunks.now c.loop-c.c-index origin (blocks_in c.args.cells.now.entries) (blocks_in c.loop-c.cells.entries) (omega arith) c.loop-c.invariant.left, in_all_count c.args.chunks.now (c.loop-c.c-index + 1) (blocks_in c.args.cells.now.entries), c.args.fresh.now.ok)

pub loop-c-preserved : goal.loop-c-preserved
loop-c-preserved c = record {
  cells = c.move_cell-moved.ensures.cells;
  into_cells = c.move_cell-moved.ensures.into_cells;
  order = c.move_cell-moved.ensures.order;
  left = λ f.
      (rw c.key_of.ensures at (c.move_cell-moved.ensures.left f))
      ∙ c.loop-c.invariant.left (only (is_astray (key_of c.args.chunks.now c.loop-c.c-index origin)) f)
      ∙ sym (out_more c.args.chunks.now c.loop-c.c-index origin (omega arith) f (blocks_in c.args.cells.now.entries));
  moved = λ f.
      let m = rw c.key_of.ensures at (c.move_cell-moved.ensures.moved f) in
      omega (
        arith,
        m,
        c.loop-c.invariant.moved f,
        c.loop-c.invariant.left (only (lies_at (key_of c.args.chunks.now c.loop-c.c-index origin)) f),
        in_more c.args.chunks.now c.loop-c.c-index origin (omega arith) f (blocks_in c.args.cells.now.entries),
      );
  count = let n = rw c.key_of.ensures at c.move_cell-moved.ensures.count in omega (arith, n, count_more c.args.chunks.now c.loop-c.c-index origin (blocks_in c.args.cells.now.entries) (blocks_in c.loop-c.cells.entries) (omega arith) c.loop-c.invariant.left);
  len = omega arith;
  capacity = omega arith;
}

whole : (c : goal.After-loop-c) → take c.loop-c.c-index c.args.chunks.now ≡ c.args.chunks.now
whole c = take_all c.loop-c.c-index c.args.chunks.now (omega arith)

pub returns-clause-left : goal.returns-clause-left
returns-clause-left c = λ f. c.loop-c.invariant.left f ∙ ap (λ l. sum_by (only (lies_outside l) f) (blocks_in c.args.cells.now.entries)) (whole c)

pub returns-clause-moved : goal.returns-clause-moved
returns-clause-moved c = λ f. omega (arith, c.loop-c.invariant.moved f, ap (λ l. sum_by (only (lies_in l) f) (blocks_in c.args.cells.now.entries)) (whole c))

pub returns-clause-count : goal.returns-clause-count
returns-clause-count c = c.loop-c.invariant.count ∙ ap (λ l. count_by (lies_in l) (blocks_in c.args.cells.now.entries)) (whole c)
