use Rattle.std.proofs.Common.{◌≡◌, ◌≤◌}
use Rattle.fol_model.specs.declared.places.SectionPos.{SectionPos}
use Rattle.fol_region_tables.specs.Owners.{owner_in}
use Rattle.fol_region_tables.proofs.pages.throw_out_all.Given as goal

abbrev pub invariant-loop-index : goal.invariant-loop-index
invariant-loop-index l = record {
  owner : (q : SectionPos) → owner_in l.pages.entries q ≡ owner_in l.initial.pages.entries q;
  room : l.initial.pages.spare ≤ l.pages.spare;
}
