use Rattle.std.proofs.Common.{◌≡◌, ◌+◌, ◌-◌, ◌≤◌, ◌++◌, cond, length}
use Rattle.std.specs.Prelude.{nat_eq}
use Rattle.std.specs.List.{count_by, filter}
use Rattle.std.specs.Vec.{vec_capacity}
use Rattle.fol_model.specs.declared.places.SectionPos.{SectionPos}
use Rattle.fol_model.specs.Geometry.{is_within, same_section}
use Rattle.fol_model.specs.Universe.{square}
use Rattle.fol_sections.specs.Pages.{chunks_at, is_here, near_at}
use Rattle.fol_sections.specs.SquareRuns.{rest}
use Rattle.fol_sections.proofs.squares.empty_square.Given as goal

abbrev pub invariant-loop-first : goal.invariant-loop-first
invariant-loop-first l = record {
  once : (q : SectionPos) → count_by (same_section q) (rest l.runs) ≤ cond (is_within l.fn.s l.fn.radius q) 1 0;
  near : (q : SectionPos) → near_at l.initial.pages.entries q + count_by (same_section q) (rest l.runs) ≡ near_at l.pages.entries q + cond (is_within l.fn.s l.fn.radius q) 1 0;
  here : (q : SectionPos) → is_here l.pages.entries q ≡ is_here l.initial.pages.entries q;
  chunks : (q : SectionPos) → chunks_at l.pages.entries q ≡ chunks_at l.initial.pages.entries q;
  room : l.pages.spare ≡ l.initial.pages.spare;
  died : l.died.items ++ filter (λ q. nat_eq (near_at l.initial.pages.entries q - 1) 0) (rest l.runs) ≡ filter (λ q. nat_eq (near_at l.initial.pages.entries q - 1) 0) (square l.fn.s l.fn.radius);
  most : length l.died.items + length (rest l.runs) ≤ 289;
  space : vec_capacity l.initial.died ≤ vec_capacity l.died;
}

abbrev pub decreases-loop-first : goal.decreases-loop-first
decreases-loop-first l = length (rest l.runs)
