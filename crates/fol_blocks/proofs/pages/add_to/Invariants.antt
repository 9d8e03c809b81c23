use Rattle.std.proofs.Common.{◌≡◌, ◌++◌, take}
use Rattle.fol_blocks.specs.Pages.{blocks_on}
use Rattle.fol_blocks.proofs.pages.add_to.Given as goal

abbrev pub invariant-loop-page : goal.invariant-loop-page
invariant-loop-page l = l.list.items ≡ l.initial.list.items ++ blocks_on (take l.page-index l.pages)
