use Rattle.std.proofs.Common.{◌≡◌, ℕ, cond, take}
use Rattle.std.specs.Prelude.{nat_eq, slice_index_or}
use Rattle.std.specs.List.{list_any}
use Rattle.fol_pages.specs.Pages.{place_of}
use Rattle.fol_region_tables.proofs.pages.write_on.Given as goal

abbrev pub invariant-loop-s : goal.invariant-loop-s
invariant-loop-s l = (k : ℕ) → slice_index_or l.page.owners k 0 ≡ cond (list_any (λ s. nat_eq (place_of s) k) (take l.s-index l.sections)) l.id (slice_index_or l.initial.page.owners k 0)
