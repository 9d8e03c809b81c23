-- How many loaded chunks a section has at most.
use Rattle.std.proofs.Common.{ℕ, ◌≤◌, ◌^◌, arith, List}
use Rattle.std.specs.Prelude.{ℤ, pos, ◌*ℤ◌}
use Rattle.std.proofs.lemmas.List.Sums.{count_by-le-length}
use Rattle.fol_model.specs.declared.places.ChunkPos.{ChunkPos}
use Rattle.fol_model.specs.declared.places.SectionPos.{SectionPos}
use Rattle.fol_model.specs.declared.grids.Grid.{Grid}
use Rattle.fol_sections.specs.Kept.{IsKept, is_held}
use Rattle.fol_sections.specs.Pages.{chunks_at}
use Rattle.fol_sections.specs.Rows.{chunk_at, rows_of}
use Rattle.fol_sections.specs.declared.pages.Page.{Page}
use Rattle.fol_sections.proofs.Lengths.{length-rows}
use Rattle.fol_sections.proofs.Products.{area_few, side_some}
use Rattle.fol_sections.proofs.SectionChunks.{section_chunks}

pub chunks_few : (grid : Grid) (holds : List ((ℤ × ℤ) × ℕ)) (pages : List ((ℤ × ℤ) × Page)) (count : ℕ) (s : SectionPos) → IsKept grid holds pages count → chunks_at pages s ≤ 1024
chunks_few grid holds pages count s kept =
    let all = section_chunks grid s (side_some grid.shift) (is_held holds) kept.chunk_limits in
    let rows : List ChunkPos = rows_of chunk_at (s.x *ℤ pos (2 ^ grid.shift)) (s.z *ℤ pos (2 ^ grid.shift)) (2 ^ grid.shift) (2 ^ grid.shift) in
    omega (
      arith,
      kept.chunks s,
      all.1,
      count_by-le-length (is_held holds) rows,
      length-rows chunk_at (s.x *ℤ pos (2 ^ grid.shift)) (s.z *ℤ pos (2 ^ grid.shift)) (2 ^ grid.shift) (2 ^ grid.shift),
      area_few grid.shift kept.numbers.shift,
    )
