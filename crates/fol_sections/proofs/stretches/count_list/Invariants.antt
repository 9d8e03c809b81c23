use Rattle.std.proofs.Common.{◌≡◌, ◌+◌, length}
use Rattle.std.specs.Prelude.{sum_by}
use Rattle.fol_sections.specs.Pages.{chunks_at}
use Rattle.fol_sections.proofs.stretches.count_list.Given as goal

abbrev pub invariant-loop-rest : goal.invariant-loop-rest
invariant-loop-rest l = l.count + sum_by (chunks_at l.pages.entries) l.rest ≡ sum_by (chunks_at l.pages.entries) l.fn.list

abbrev pub decreases-loop-rest : goal.decreases-loop-rest
decreases-loop-rest l = length l.rest
