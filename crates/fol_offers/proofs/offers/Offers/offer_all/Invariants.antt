use Rattle.fol_model.specs.Counting.{count_below}
use Rattle.fol_core.specs.Answers.{is_free}
use Rattle.fol_core.specs.Meaning.{world_of}
use Rattle.fol_offers.specs.Shown.{OffersMore}
use Rattle.fol_offers.proofs.offers.Offers.offer_all.Given as goal

abbrev pub invariant-regions : goal.invariant-regions
invariant-regions l = OffersMore l.fn.self l.self

abbrev pub decreases-regions : goal.decreases-regions
decreases-regions l = count_below (is_free l.self.core) (world_of l.self.core).grid.next
