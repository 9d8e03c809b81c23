use Rattle.std.proofs.Common.{◌≡◌, ◌*◌, ◌≤◌, length}
use Rattle.fol_region_tables.specs.Book.{owner_of}
use Rattle.fol_regions.specs.Near.{regions_of, rows_of}
use Rattle.fol_regions.proofs.near.NearRegions.find.Given as goal

abbrev pub invariant-loop-row : goal.invariant-loop-row
invariant-loop-row l = record {
  near : l.self ≡ regions_of (owner_of l.tables) l.tables.next (rows_of l.first l.row l.side);
  few : length l.self ≤ 25 * l.row;
}
