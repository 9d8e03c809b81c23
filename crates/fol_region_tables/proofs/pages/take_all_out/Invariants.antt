use Rattle.std.proofs.Common.{◌≡◌, ◌≤◌, cond, length}
use Rattle.fol_model.specs.declared.places.SectionPos.{SectionPos}
use Rattle.fol_model.specs.Geometry.{is_among}
use Rattle.fol_region_tables.specs.Owners.{owner_in}
use Rattle.fol_region_tables.proofs.pages.take_all_out.Given as goal

abbrev pub invariant-loop-rest : goal.invariant-loop-rest
invariant-loop-rest l = record {
  owner : (q : SectionPos) → cond (is_among l.rest q) 0 (owner_in l.pages.entries q) ≡ cond (is_among l.sections q) 0 (owner_in l.initial.pages.entries q);
  room : l.initial.pages.spare ≤ l.pages.spare;
}

abbrev pub decreases-loop-rest : goal.decreases-loop-rest
decreases-loop-rest l = length l.rest
