use Rattle.std.proofs.Common.{◌+◌, ◌≤◌, refl, sym, ◌∙◌, ap, arith, ◌++◌, append_assoc, length, length-append}
use Rattle.std.specs.Prelude.{ℤ, pos, ◌+ℤ◌}
use Rattle.std.specs.List.{count_by, filter}
use Rattle.std.proofs.lemmas.List.Elements.{filter-append}
use Rattle.std.proofs.lemmas.List.Sums.{length-filter}
use Rattle.fol_laws.proofs.Coordinates.{count_by-append}
use Rattle.fol_sections.specs.Kept.{is_held}
use Rattle.fol_sections.specs.Rows.{chunk_at, row_of, rows_of}
use Rattle.fol_sections.proofs.Rows.{rows-none, rows-more, rows_part, rows_whole, append-none}
use Rattle.fol_sections.proofs.chunks.list_square.Goals as goal

pub loop-row-init : goal.loop-row-init
loop-row-init c = record {
  listed = sym (ap (λ xs. c.args.out.now.items ++ filter (is_held c.args.holds.now.entries) xs) (rows-none chunk_at c.args.first.x c.args.first.z c.args.side) ∙ append-none c.args.out.now.items);
  capacity = refl;
}

-- the chunks of the rows so far are all
pub returns-then-len-all-clause-listed : goal.returns-then-len-all-clause-listed
returns-then-len-all-clause-listed c =
    let x : ℤ = c.args.first.x in
    let z : ℤ = c.args.first.z in
    let n = c.args.side in
    let row = c.loop-row.row in
    let test = is_held c.args.holds.now.entries in
    let enough : count_by test (rows_of chunk_at x z n n) ≤ count_by test (rows_of chunk_at x z row n) = omega (
      arith,
      ap length c.loop-row.invariant.listed,
      length-append c.args.out.now.items (filter test (rows_of chunk_at x z row n)),
      length-filter test (rows_of chunk_at x z row n),
      c.requires.all,
      c.len.ensures,
      c.if-len-all.true,
    ) in
    c.loop-row.invariant.listed ∙ ap (λ xs. c.args.out.now.items ++ xs) (sym (rows_whole chunk_at test x z row n n (omega arith) enough))

pub list_row-requires-clause-room : goal.list_row-requires-clause-room
list_row-requires-clause-room c =
    let x : ℤ = c.args.first.x in
    let z : ℤ = c.args.first.z in
    let n = c.args.side in
    let row = c.loop-row.row in
    let test = is_held c.args.holds.now.entries in
    omega (
      arith,
      ap length c.loop-row.invariant.listed,
      length-append c.args.out.now.items (filter test (rows_of chunk_at x z row n)),
      length-filter test (rows_of chunk_at x z row n),
      c.loop-row.invariant.capacity,
      c.requires.room,
      c.requires.all,
      rows_part chunk_at test x z (row + 1) n n (omega arith),
      ap (count_by test) (rows-more chunk_at x z row n),
      count_by-append test (rows_of chunk_at x z row n) (row_of chunk_at x (z +ℤ pos row) n),
    )

pub loop-row-preserved : goal.loop-row-preserved
loop-row-preserved c =
    let x : ℤ = c.args.first.x in
    let z : ℤ = c.args.first.z in
    let n = c.args.side in
    let row = c.loop-row.row in
    let test = is_held c.args.holds.now.entries in
    record {
      listed = c.list_row.ensures.listed ∙ ap (λ xs. xs ++ filter test (row_of chunk_at x (z +ℤ pos row) n)) c.loop-row.invariant.listed
          ∙ append_assoc c.args.out.now.items (filter test (rows_of chunk_at x z row n)) (filter test (row_of chunk_at x (z +ℤ pos row) n))
          ∙ ap (λ xs. c.args.out.now.items ++ xs) (sym (ap (filter test) (rows-more chunk_at x z row n) ∙ filter-append test (rows_of chunk_at x z row n) (row_of chunk_at x (z +ℤ pos row) n)));
      capacity = c.list_row.ensures.capacity ∙ c.loop-row.invariant.capacity;
    }
