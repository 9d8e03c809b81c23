use Rattle.std.proofs.Common.{sym, ◌∙◌, ap}
use Rattle.fol_core.specs.Meaning.{mark_count}
use Rattle.fol_core.proofs.MarkCounts.{count_none}
use Rattle.fol_core.proofs.marks.Marks.new.Goals as goal

pub invariant_of-result : goal.invariant_of-result
invariant_of-result c = sym (ap mark_count c.new.ensures.items ∙ count_none)
