use Rattle.std.proofs.Common.{◌≡◌, ◌≤◌}
use Rattle.fol_model.specs.declared.places.SectionPos.{SectionPos}
use Rattle.fol_sections.specs.Pages.{counts_at}
use Rattle.fol_sections.proofs.pages.throw_out_all.Given as goal

abbrev pub invariant-loop-index : goal.invariant-loop-index
invariant-loop-index l = record {
  counts : (q : SectionPos) → counts_at l.pages.entries q ≡ counts_at l.initial.pages.entries q;
  room : l.initial.pages.spare ≤ l.pages.spare;
}
