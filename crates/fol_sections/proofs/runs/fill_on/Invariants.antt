use Rattle.std.proofs.Common.{◌≡◌, ◌+◌, ◌≤◌, ◌||◌, ◌++◌, not, length}
use Rattle.std.specs.Prelude.{is_some, nat_lt}
use Rattle.std.specs.List.{count_by, filter}
use Rattle.std.specs.Vec.{vec_capacity}
use Rattle.fol_model.specs.declared.places.SectionPos.{SectionPos}
use Rattle.fol_model.specs.Geometry.{same_section}
use Rattle.fol_sections.specs.Pages.{IsOnPage, chunks_on, counts_on, near_on}
use Rattle.fol_sections.specs.Rows.{row_of, section_at}
use Rattle.fol_sections.proofs.runs.fill_on.Given as goal

abbrev pub invariant-loop-i : goal.invariant-loop-i
invariant-loop-i l = record {
  near : (q : SectionPos) → IsOnPage l.fn.s q → near_on l.page q ≡ near_on l.initial.page q + count_by (same_section q) (row_of section_at l.fn.s.x l.fn.s.z l.i);
  here : (q : SectionPos) → IsOnPage l.fn.s q → is_some (counts_on l.page q) ≡ (is_some (counts_on l.initial.page q) || nat_lt 0 (count_by (same_section q) (row_of section_at l.fn.s.x l.fn.s.z l.i)));
  chunks : (q : SectionPos) → chunks_on l.page q ≡ chunks_on l.initial.page q;
  filled : l.filled.items ≡ l.initial.filled.items ++ filter (λ q. not (is_some (counts_on l.initial.page q))) (row_of section_at l.fn.s.x l.fn.s.z l.i);
  few : length l.filled.items ≤ length l.initial.filled.items + l.i;
  space : vec_capacity l.initial.filled ≤ vec_capacity l.filled;
}
