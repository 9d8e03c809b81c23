use Rattle.std.proofs.Common.{◌≡◌, ◌≤◌, not}
use Rattle.std.specs.Prelude.{is_some}
use Rattle.std.specs.List.{count_by}
use Rattle.fol_sections.specs.Pages.{counts_on}
use Rattle.fol_sections.specs.Rows.{row_of, section_at}
use Rattle.fol_sections.proofs.missing.count_on.Given as goal

abbrev pub invariant-loop-i : goal.invariant-loop-i
invariant-loop-i l = record {
  count : l.count ≡ count_by (λ q. not (is_some (counts_on l.page q))) (row_of section_at l.fn.s.x l.fn.s.z l.i);
  few : l.count ≤ l.i;
}
