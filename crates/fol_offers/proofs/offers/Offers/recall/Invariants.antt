use Rattle.std.proofs.Common.{ℕ, Bool}
use Rattle.fol_model.specs.Counting.{count_below}
use Rattle.fol_core.specs.Meaning.{is_prepared, world_of}
use Rattle.fol_offers.specs.Shown.{CallsBack}
use Rattle.fol_offers.proofs.offers.Offers.recall.Given as goal

abbrev pub invariant-loop-i : goal.invariant-loop-i
invariant-loop-i l = (f : ℕ → Bool) × CallsBack l.fn.self l.self l.by f

abbrev pub decreases-loop-i : goal.decreases-loop-i
decreases-loop-i l = count_below (is_prepared l.self.core) (world_of l.self.core).grid.next
