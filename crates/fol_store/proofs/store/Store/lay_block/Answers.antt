use Rattle.std.proofs.Common.{◌∙◌, ap, ℕ}
use Rattle.fol_store.specs.Bag.{Bag}
use Rattle.fol_store.proofs.Arriving.{bags_same}
use Rattle.fol_store.proofs.store.Store.lay_block.Goals as goal

pub lay_block_in-requires-clause-closed : goal.lay_block_in-requires-clause-closed
lay_block_in-requires-clause-closed c = record { bags = λ u. ap (λ (f : ℕ → Bag). f u) (bags_same c.args.self.now c.spot_of.new.self c.spot_of.ensures.bags) ∙ c.requires.closed.bags u }
