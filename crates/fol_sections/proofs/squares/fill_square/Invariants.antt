use Rattle.std.proofs.Common.{◌≡◌, ◌+◌, ◌<◌, ◌≤◌, ◌||◌, ◌++◌, cond, not, length}
use Rattle.std.specs.Prelude.{nat_lt}
use Rattle.std.specs.List.{count_by, filter}
use Rattle.std.specs.Vec.{vec_capacity}
use Rattle.fol_model.specs.declared.places.SectionPos.{SectionPos}
use Rattle.fol_model.specs.Geometry.{is_within, same_section}
use Rattle.fol_model.specs.Universe.{square}
use Rattle.fol_pages.proofs.AbsentPages.{is_absent}
use Rattle.fol_sections.specs.Pages.{InNear, chunks_at, is_here, near_at}
use Rattle.fol_sections.specs.SquareRuns.{rest}
use Rattle.fol_sections.proofs.NearPages.{near_from}
use Rattle.fol_sections.proofs.squares.fill_square.Given as goal

abbrev pub invariant-loop-first : goal.invariant-loop-first
invariant-loop-first l = record {
  once : (q : SectionPos) → count_by (same_section q) (rest l.runs) ≤ cond (is_within l.fn.s l.fn.radius q) 1 0;
  near : (q : SectionPos) → near_at l.pages.entries q + count_by (same_section q) (rest l.runs) ≡ near_at l.initial.pages.entries q + cond (is_within l.fn.s l.fn.radius q) 1 0;
  here : (q : SectionPos) → (is_here l.pages.entries q || nat_lt 0 (count_by (same_section q) (rest l.runs))) ≡ (is_here l.initial.pages.entries q || is_within l.fn.s l.fn.radius q);
  coming : (q : SectionPos) → 0 < count_by (same_section q) (rest l.runs) → is_here l.pages.entries q ≡ is_here l.initial.pages.entries q;
  chunks : (q : SectionPos) → chunks_at l.pages.entries q ≡ chunks_at l.initial.pages.entries q;
  room : (near : InNear (square l.fn.s l.fn.radius)) → l.initial.pages.spare + count_by (is_absent l.pages.entries) (near_from near.x near.z) ≤ l.pages.spare + count_by (is_absent l.initial.pages.entries) (near_from near.x near.z);
  filled : l.filled.items ++ filter (λ q. not (is_here l.initial.pages.entries q)) (rest l.runs) ≡ filter (λ q. not (is_here l.initial.pages.entries q)) (square l.fn.s l.fn.radius);
  most : length l.filled.items + length (rest l.runs) ≤ 289;
  space : vec_capacity l.initial.filled ≤ vec_capacity l.filled;
}

abbrev pub decreases-loop-first : goal.decreases-loop-first
decreases-loop-first l = length (rest l.runs)
