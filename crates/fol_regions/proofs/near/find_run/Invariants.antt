use Rattle.std.proofs.Common.{◌≡◌, ◌+◌, ◌≤◌, ◌++◌, length, List}
use Rattle.fol_model.specs.declared.places.SectionPos.{SectionPos}
use Rattle.fol_region_tables.specs.Book.{owner_of}
use Rattle.fol_regions.specs.Near.{noted, regions_of}
use Rattle.fol_sections.specs.Rows.{row_of as run_of, section_at}
use Rattle.fol_regions.proofs.near.find_run.Given as goal

abbrev pub invariant-loop-id : goal.invariant-loop-id
invariant-loop-id l = record {
  near : (before : List SectionPos) → l.initial.near ≡ regions_of (owner_of l.tables) l.tables.next before → l.near ≡ regions_of (owner_of l.tables) l.tables.next (before ++ run_of section_at l.fn.s.x l.fn.s.z l.id-index);
  last : noted l.last l.near ≡ l.near;
  few : length l.near ≤ length l.initial.near + l.id-index;
}
