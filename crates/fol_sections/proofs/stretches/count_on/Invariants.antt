use Rattle.std.proofs.Common.{◌≡◌, take}
use Rattle.std.specs.Prelude.{sum_by}
use Rattle.fol_sections.specs.Pages.{chunks_on}
use Rattle.fol_sections.proofs.stretches.count_on.Given as goal

abbrev pub invariant-loop-s : goal.invariant-loop-s
invariant-loop-s l = l.count ≡ sum_by (chunks_on l.page) (take l.s-index l.part)
