use Rattle.std.proofs.Common.{◌∙◌, sym}
use Rattle.fol_core.proofs.MarkCounts.{none_counted}
use Rattle.fol_core.proofs.machine.Core.prepared_count.Goals as goal

pub returns-clause-none : goal.returns-clause-none
returns-clause-none c = rw (← c.self.view_is) (λ none. none_counted c.self.inside.marks (sym c.count.ensures.count ∙ none))
