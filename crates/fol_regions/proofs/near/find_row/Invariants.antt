use Rattle.std.proofs.Common.{◌≡◌, ◌+◌, ◌-◌, ◌≤◌, ◌++◌, length, List}
use Rattle.fol_model.specs.declared.places.SectionPos.{SectionPos}
use Rattle.fol_region_tables.specs.Book.{owner_of}
use Rattle.fol_regions.specs.Near.{regions_of, row_of}
use Rattle.fol_regions.proofs.near.find_row.Given as goal

abbrev pub invariant-loop-i : goal.invariant-loop-i
invariant-loop-i l = record {
  near : (before : List SectionPos) → l.initial.near ≡ regions_of (owner_of l.tables) l.tables.next before → l.near ≡ regions_of (owner_of l.tables) l.tables.next (before ++ row_of l.first l.row l.i);
  few : length l.near ≤ length l.initial.near + l.i;
  bound : l.i ≤ l.n;
}

abbrev pub decreases-loop-i : goal.decreases-loop-i
decreases-loop-i l = l.n - l.i
