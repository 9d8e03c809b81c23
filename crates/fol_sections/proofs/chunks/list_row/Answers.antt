use Rattle.std.proofs.Common.{◌≡◌, ◌+◌, refl, sym, ◌∙◌, ap, arith, true, false, ◌∷◌, [], ◌++◌, append_assoc, length, length-append}
use Rattle.std.specs.Prelude.{ℤ, pos, ◌+ℤ◌}
use Rattle.std.specs.List.{count_by, filter}
use Rattle.std.proofs.lemmas.List.Sums.{length-filter}
use Rattle.fol_model.specs.declared.places.ChunkPos.{ChunkPos}
use Rattle.fol_sections.specs.Kept.{is_held}
use Rattle.fol_sections.specs.Rows.{chunk_at, row_of}
use Rattle.fol_sections.proofs.Rows.{row-none, row_part, filter_yes, filter_no, count_more, append-none}
use Rattle.fol_sections.proofs.chunks.list_row.Goals as goal
use Rattle.fol_sections.proofs.chunks.list_row.Goals.{then-is_loaded, else-is_loaded}

pub loop-i-init : goal.loop-i-init
loop-i-init c = record {
  listed = sym (ap (λ xs. c.args.out.now.items ++ filter (is_held c.args.holds.now.entries) xs) (row-none chunk_at c.args.first.x (c.args.first.z +ℤ pos c.args.row)) ∙ append-none c.args.out.now.items);
  capacity = refl;
}

pub push_reserved-requires : goal.push_reserved-requires
push_reserved-requires c =
    let x : ℤ = c.args.first.x in
    let z : ℤ = c.args.first.z +ℤ pos c.args.row in
    let i = c.loop-i.i in
    let place : ChunkPos = record { x = x +ℤ pos i; z = z } in
    let is : c.beside-c.result ≡ place = c.beside-c.ensures in
    let test = is_held c.args.holds.now.entries in
    let yes : test place ≡ true = ap test (sym is) ∙ sym c.is_loaded.ensures ∙ c.if-is_loaded.true in
    let more : count_by test (row_of chunk_at x z (i + 1)) ≡ count_by test (row_of chunk_at x z i) + 1 = rw yes at (count_more chunk_at test x z i) in
    let part = row_part chunk_at test x z (i + 1) c.args.n (omega arith) in
    omega (
      arith,
      ap length c.loop-i.invariant.listed,
      length-append c.args.out.now.items (filter test (row_of chunk_at x z i)),
      length-filter test (row_of chunk_at x z i),
      c.loop-i.invariant.capacity,
      c.requires.room,
      more,
      part,
    )

pub loop-i-preserved : goal.loop-i-preserved
loop-i-preserved c =
    let x : ℤ = c.args.first.x in
    let z : ℤ = c.args.first.z +ℤ pos c.args.row in
    let i = c.loop-i.i in
    let place : ChunkPos = record { x = x +ℤ pos i; z = z } in
    let is : c.beside-c.result ≡ place = c.beside-c.ensures in
    let test = is_held c.args.holds.now.entries in
    elim c.if-is_loaded.branch [
      | then-is_loaded w ↦
          let yes : test place ≡ true = ap test (sym is) ∙ sym c.is_loaded.ensures ∙ w.if-is_loaded.true in
          let items = rw is at w.push_reserved.ensures.items in
          rw w.out-is (record {
            listed = items ∙ ap (λ xs. xs ++ place ∷ []) c.loop-i.invariant.listed
                ∙ append_assoc c.args.out.now.items (filter test (row_of chunk_at x z i)) (place ∷ [])
                ∙ ap (λ xs. c.args.out.now.items ++ xs) (sym (filter_yes chunk_at test x z i yes));
            capacity = w.push_reserved.ensures.capacity ∙ c.loop-i.invariant.capacity;
          })
      | else-is_loaded w ↦
          let no : test place ≡ false = ap test (sym is) ∙ sym c.is_loaded.ensures ∙ w.if-is_loaded.false in
          rw w.out-is (record {
            listed = c.loop-i.invariant.listed ∙ ap (λ xs. c.args.out.now.items ++ xs) (sym (filter_no chunk_at test x z i no));
            capacity = c.loop-i.invariant.capacity;
          })
    ]
