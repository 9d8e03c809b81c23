use Rattle.std.proofs.Common.{◌≡◌, ◌+◌, ◌≤◌, true, cond, List, length}
use Rattle.std.specs.Prelude.{ℤ}
use Rattle.std.specs.List.{count_by}
use Rattle.fol_model.specs.declared.places.SectionPos.{SectionPos}
use Rattle.fol_model.specs.Geometry.{is_among}
use Rattle.fol_pages.specs.Pages.{has_page, is_listed, page_of}
use Rattle.fol_pages.proofs.AbsentPages.{is_absent}
use Rattle.fol_region_tables.specs.Owners.{is_new, owner_in}
use Rattle.fol_region_tables.proofs.pages.give_all.Given as goal

abbrev pub invariant-loop-rest : goal.invariant-loop-rest
invariant-loop-rest l = record {
  owner : (q : SectionPos) → cond (is_among l.rest q) l.id (owner_in l.pages.entries q) ≡ cond (is_among l.sections q) l.id (owner_in l.initial.pages.entries q);
  within : (q : SectionPos) → is_among l.rest q ≡ true → is_among l.sections q ≡ true;
  there : (x z : ℤ) → has_page l.initial.pages.entries x z ≡ true → has_page l.pages.entries x z ≡ true;
  room : (pages : List (ℤ × ℤ)) → ((s : SectionPos) → is_new (owner_in l.initial.pages.entries) l.sections s ≡ true → is_listed pages (page_of s.x) s.z ≡ true)
      → l.initial.pages.spare + count_by (is_absent l.pages.entries) pages ≤ l.pages.spare + count_by (is_absent l.initial.pages.entries) pages;
}

abbrev pub decreases-loop-rest : goal.decreases-loop-rest
decreases-loop-rest l = length l.rest
