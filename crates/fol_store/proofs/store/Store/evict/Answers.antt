use Rattle.std.proofs.Common.{ℕ, ◌∙◌, ap}
use Rattle.fol_store.specs.Bag.{Bag}
use Rattle.fol_store.proofs.Arriving.{bags_same}
use Rattle.fol_store.proofs.store.Store.evict.Goals as goal

pub evict_to-requires-clause-here : goal.evict_to-requires-clause-here
evict_to-requires-clause-here c = ap (λ (f : ℕ → Bag). (f c.args.id).here) (bags_same _ _ c.spot_of.ensures.bags) ∙ c.requires.here

pub evict_to-requires-clause-not_listed : goal.evict_to-requires-clause-not_listed
evict_to-requires-clause-not_listed c = ap (λ (f : ℕ → Bag). (f c.args.id).listed) (bags_same _ _ c.spot_of.ensures.bags) ∙ c.requires.not_listed

pub returns-in-Ok-clause-bags : goal.returns-in-Ok-clause-bags
returns-in-Ok-clause-bags c = c.evict_to.ensures.bags ∙ bags_same _ _ c.spot_of.ensures.bags

pub returns-in-Err-clause-bags : goal.returns-in-Err-clause-bags
returns-in-Err-clause-bags c = bags_same _ _ c.spot_of.ensures.bags
