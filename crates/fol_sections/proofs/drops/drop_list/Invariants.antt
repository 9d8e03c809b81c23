use Rattle.std.proofs.Common.{◌≡◌, ◌+◌, ◌≤◌, ◌&&◌, cond, length}
use Rattle.std.specs.Prelude.{None, count_by, nat_eq}
use Rattle.fol_model.specs.declared.places.SectionPos.{SectionPos}
use Rattle.fol_model.specs.Geometry.{is_among}
use Rattle.fol_sections.specs.Pages.{counts_at, near_at}
use Rattle.fol_sections.proofs.drops.drop_list.Given as goal

abbrev pub invariant-loop-rest : goal.invariant-loop-rest
invariant-loop-rest l = record {
  dead : l.dead + count_by (λ s. nat_eq (near_at l.initial.pages.entries s) 0) l.rest ≡ count_by (λ s. nat_eq (near_at l.initial.pages.entries s) 0) l.fn.list;
  near : (q : SectionPos) → near_at l.pages.entries q ≡ near_at l.initial.pages.entries q;
  out : (q : SectionPos) → cond (is_among l.rest q && nat_eq (near_at l.pages.entries q) 0) None (counts_at l.pages.entries q)
      ≡ cond (is_among l.fn.list q && nat_eq (near_at l.initial.pages.entries q) 0) None (counts_at l.initial.pages.entries q);
  room : l.initial.pages.spare ≤ l.pages.spare;
}

abbrev pub decreases-loop-rest : goal.decreases-loop-rest
decreases-loop-rest l = length l.rest
