use Rattle.std.proofs.Common.{◌≡◌, ◌+◌, ◌-◌, ◌≤◌, ◌++◌, length}
use Rattle.std.specs.Prelude.{nat_eq}
use Rattle.std.specs.List.{count_by, filter}
use Rattle.std.specs.Vec.{vec_capacity}
use Rattle.fol_model.specs.declared.places.SectionPos.{SectionPos}
use Rattle.fol_model.specs.Geometry.{same_section}
use Rattle.fol_sections.specs.Pages.{IsOnPage, KeepsOthers, near_on}
use Rattle.fol_sections.specs.Rows.{row_of, section_at}
use Rattle.fol_sections.proofs.runs.empty_on.Given as goal

abbrev pub invariant-loop-i : goal.invariant-loop-i
invariant-loop-i l = record {
  near : (q : SectionPos) → IsOnPage l.fn.s q → near_on l.initial.page q ≡ near_on l.page q + count_by (same_section q) (row_of section_at l.fn.s.x l.fn.s.z l.i);
  kept : KeepsOthers l.initial.page l.page;
  died : l.died.items ≡ l.initial.died.items ++ filter (λ q. nat_eq (near_on l.initial.page q - 1) 0) (row_of section_at l.fn.s.x l.fn.s.z l.i);
  few : length l.died.items ≤ length l.initial.died.items + l.i;
  space : vec_capacity l.initial.died ≤ vec_capacity l.died;
}
