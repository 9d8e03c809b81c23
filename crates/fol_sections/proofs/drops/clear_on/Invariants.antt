use Rattle.std.proofs.Common.{◌≡◌, ◌&&◌, cond, take}
use Rattle.std.specs.Prelude.{None, count_by, nat_eq}
use Rattle.std.specs.List.{All}
use Rattle.fol_model.specs.declared.places.SectionPos.{SectionPos}
use Rattle.fol_model.specs.Geometry.{is_among}
use Rattle.fol_sections.specs.Pages.{IsOnPage, counts_on, near_on}
use Rattle.fol_sections.proofs.drops.clear_on.Given as goal

abbrev pub invariant-loop-s : goal.invariant-loop-s
invariant-loop-s l = record {
  dead : l.dead ≡ count_by (λ s. nat_eq (near_on l.initial.page s) 0) (take l.s-index l.part);
  near : (q : SectionPos) → near_on l.page q ≡ near_on l.initial.page q;
  out : (q : SectionPos) → All (IsOnPage q) l.part → counts_on l.page q ≡ cond (is_among (take l.s-index l.part) q && nat_eq (near_on l.initial.page q) 0) None (counts_on l.initial.page q);
}
