use Rattle.std.proofs.Common.{◌+◌, ◌≤◌, refl, sym, ◌∙◌, ap, arith, ◌++◌, append_assoc, length, length-append}
use Rattle.std.specs.Prelude.{ℤ, pos, ◌+ℤ◌}
use Rattle.std.proofs.Math.Nat.{mul-le-mul}
use Rattle.fol_sections.specs.Rows.{chunk_at, row_of, rows_of}
use Rattle.fol_sections.proofs.Lengths.{length-row, length-rows}
use Rattle.fol_sections.proofs.Rows.{rows-none, rows-more, append-none}
use Rattle.fol_sections.proofs.chunks.list_whole.Goals as goal

pub loop-row-init : goal.loop-row-init
loop-row-init c = record {
  listed = sym (ap (λ xs. c.args.out.now.items ++ xs) (rows-none chunk_at c.args.first.x c.args.first.z c.args.side) ∙ append-none c.args.out.now.items);
  capacity = refl;
}

pub list_whole_row-requires-clause-room : goal.list_whole_row-requires-clause-room
list_whole_row-requires-clause-room c =
    let x : ℤ = c.args.first.x in
    let z : ℤ = c.args.first.z in
    let n = c.args.side in
    let row = c.loop-row.row in
    let below : row + 1 ≤ n = omega (arith, c.loop-row-test.true) in
    let same : n ≤ n = omega arith in
    omega (
      arith,
      ap length c.loop-row.invariant.listed,
      length-append c.args.out.now.items (rows_of chunk_at x z row n),
      length-rows chunk_at x z (row + 1) n,
      ap length (rows-more chunk_at x z row n),
      length-append (rows_of chunk_at x z row n) (row_of chunk_at x (z +ℤ pos row) n),
      length-row chunk_at x (z +ℤ pos row) n,
      mul-le-mul below same,
      c.loop-row.invariant.capacity,
      c.requires.room,
    )

pub loop-row-preserved : goal.loop-row-preserved
loop-row-preserved c =
    let x : ℤ = c.args.first.x in
    let z : ℤ = c.args.first.z in
    let n = c.args.side in
    let row = c.loop-row.row in
    record {
      listed = c.list_whole_row.ensures.listed ∙ ap (λ xs. xs ++ row_of chunk_at x (z +ℤ pos row) n) c.loop-row.invariant.listed
          ∙ append_assoc c.args.out.now.items (rows_of chunk_at x z row n) (row_of chunk_at x (z +ℤ pos row) n)
          ∙ ap (λ xs. c.args.out.now.items ++ xs) (sym (rows-more chunk_at x z row n));
      capacity = c.list_whole_row.ensures.capacity ∙ c.loop-row.invariant.capacity;
    }
