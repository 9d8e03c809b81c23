use Rattle.std.proofs.Common.{◌+◌, ◌*◌, ◌^◌, sym, ◌∙◌, ap, ◌++◌}
use Rattle.std.specs.Prelude.{ℤ, pos, ◌*ℤ◌}
use Rattle.fol_sections.specs.Kept.{is_held}
use Rattle.fol_sections.specs.Rows.{chunk_at, rows_of}
use Rattle.fol_sections.proofs.Lengths.{length-rows}
use Rattle.fol_sections.proofs.Rows.{filter_whole}
use Rattle.fol_sections.proofs.chunks.list_section.Goals as goal

pub returns-then-n-area_of-clause-listed : goal.returns-then-n-area_of-clause-listed
returns-then-n-area_of-clause-listed c =
    let side = 2 ^ c.args.grid.now.shift in
    let x : ℤ = c.args.s.x *ℤ pos side in
    let z : ℤ = c.args.s.z *ℤ pos side in
    let listed = rw (c.first_chunk-first.ensures, c.side_of-side.ensures.value, c.shift_of-shift.ensures.value) at c.list_whole.ensures.listed in
    let area = rw c.shift_of-shift.ensures.value at c.area_of.ensures in
    listed ∙ ap (λ xs. c.args.out.now.items ++ xs) (sym (filter_whole (is_held c.args.holds.now.entries) (rows_of chunk_at x z side side)
    (c.requires.count ∙ c.if-n-area_of.true ∙ area ∙ sym (length-rows chunk_at x z side side))))
