use Rattle.std.proofs.Common.{refl, sym, ◌∙◌, ap, arith, ◌∷◌, [], ◌++◌, append_assoc, length, length-append}
use Rattle.std.specs.Prelude.{ℤ, pos, ◌+ℤ◌}
use Rattle.fol_model.specs.declared.places.ChunkPos.{ChunkPos}
use Rattle.fol_sections.specs.Rows.{chunk_at, row_of}
use Rattle.fol_sections.proofs.Lengths.{length-row}
use Rattle.fol_sections.proofs.Rows.{row-none, row-more, append-none}
use Rattle.fol_sections.proofs.chunks.list_whole_row.Goals as goal

pub loop-i-init : goal.loop-i-init
loop-i-init c = record {
  listed = sym (ap (λ xs. c.args.out.now.items ++ xs) (row-none chunk_at c.args.first.x (c.args.first.z +ℤ pos c.args.row)) ∙ append-none c.args.out.now.items);
  capacity = refl;
}

pub push_reserved-requires : goal.push_reserved-requires
push_reserved-requires c =
    let x : ℤ = c.args.first.x in
    let z : ℤ = c.args.first.z +ℤ pos c.args.row in
    omega (arith, ap length c.loop-i.invariant.listed, length-append c.args.out.now.items (row_of chunk_at x z c.loop-i.i), length-row chunk_at x z c.loop-i.i, c.loop-i.invariant.capacity, c.requires.room, c.loop-i-test.true)

pub loop-i-preserved : goal.loop-i-preserved
loop-i-preserved c =
    let x : ℤ = c.args.first.x in
    let z : ℤ = c.args.first.z +ℤ pos c.args.row in
    let i = c.loop-i.i in
    let place : ChunkPos = record { x = x +ℤ pos i; z = z } in
    let items = rw c.beside.ensures at c.push_reserved.ensures.items in
    record {
      listed = items ∙ ap (λ xs. xs ++ place ∷ []) c.loop-i.invariant.listed
          ∙ append_assoc c.args.out.now.items (row_of chunk_at x z i) (place ∷ [])
          ∙ ap (λ xs. c.args.out.now.items ++ xs) (sym (row-more chunk_at x z i));
      capacity = c.push_reserved.ensures.capacity ∙ c.loop-i.invariant.capacity;
    }
